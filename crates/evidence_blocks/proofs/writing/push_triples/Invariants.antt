use Rattle.std.proofs.Common.{◌≡◌, ◌++◌, string_bytes, take}
use Rattle.ntriples_text.specs.Writing.{written}
use Rattle.evidence_blocks.proofs.writing.push_triples.Given as goal

abbrev pub invariant-loop-triple : goal.invariant-loop-triple
invariant-loop-triple l = string_bytes l.out ≡ string_bytes l.fn.out ++ written (take l.triple-index l.triples)
