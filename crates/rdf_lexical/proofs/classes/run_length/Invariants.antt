use Rattle.std.proofs.Common.{◌≡◌, ◌+◌, length}
use Rattle.rdf_lexical.specs.Classes
use Rattle.rdf_lexical.proofs.classes.run_length.Given as goal

abbrev pub invariant-loop-character : goal.invariant-loop-character
invariant-loop-character l = record {
  value : l.count + Classes.run_length l.class l.rest ≡ Classes.run_length l.class l.characters;
  bound : l.count + length l.rest ≡ length l.characters;
}

abbrev pub decreases-loop-character : goal.decreases-loop-character
decreases-loop-character l = length l.rest
