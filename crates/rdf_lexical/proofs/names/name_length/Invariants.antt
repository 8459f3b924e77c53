use Rattle.std.proofs.Common.{◌≡◌, ◌+◌, ◌≤◌, length}
use Rattle.rdf_lexical.specs.Names
use Rattle.rdf_lexical.proofs.Joined.{joined}
use Rattle.rdf_lexical.proofs.names.name_length.Given as goal

abbrev pub invariant-loop-character : goal.invariant-loop-character
invariant-loop-character l = record {
  value : joined l.kept l.count (Names.name_length l.class l.rest) ≡ Names.name_length l.class l.characters;
  bound : l.count + length l.rest ≡ length l.characters;
  kept : l.kept ≤ l.count;
}

abbrev pub decreases-loop-character : goal.decreases-loop-character
decreases-loop-character l = length l.rest
