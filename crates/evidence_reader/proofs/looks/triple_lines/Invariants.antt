use Rattle.std.proofs.Common.{◌≤◌, length}
use Rattle.ntriples_text.specs.Laws.{IsReadable, IsStored}
use Rattle.ntriples_text.specs.Writing.{written_line}
use Rattle.evidence_reader.specs.Finding.{FindsSome, FollowsTriples}
use Rattle.evidence_reader.proofs.looks.triple_lines.Given as goal

abbrev pub invariant-loop-triples : goal.invariant-loop-triples
invariant-loop-triples l = FindsSome (IsReadable IsStored) written_line FollowsTriples l.text l.triples l.rest × (length l.rest ≤ length l.text)

abbrev pub decreases-loop-triples : goal.decreases-loop-triples
decreases-loop-triples l = length l.rest
