use Rattle.std.proofs.Common.{◌≡◌, ◌+◌, ◌≤◌, length}
use Rattle.turtle_lex.specs.Names
use Rattle.rdf_lexical.proofs.Joined.{joined}
use Rattle.turtle_lex.proofs.names.local_run.Given as goal

abbrev pub invariant-loop-character : goal.invariant-loop-character
invariant-loop-character l = record {
  value : joined l.kept l.count (Names.local_run 0 l.rest) ≡ Names.local_run 0 l.characters;
  bound : l.count + length l.rest ≡ length l.characters;
  kept : l.kept ≤ l.count;
}

abbrev pub decreases-loop-character : goal.decreases-loop-character
decreases-loop-character l = length l.rest
