use Rattle.std.proofs.Common.{◌≡◌, ◌+◌, length}
use Rattle.rdf_lexical.specs.Enclosed
use Rattle.rdf_lexical.proofs.enclosing.leading_marks.Given as goal

abbrev pub invariant-loop-character : goal.invariant-loop-character
invariant-loop-character l = record {
  value : l.count + Enclosed.leading_marks l.mark l.left l.rest ≡ Enclosed.leading_marks l.mark l.most l.characters;
  bound : l.count + length l.rest ≡ length l.characters;
  most : l.count + l.left ≡ l.most;
}

abbrev pub decreases-loop-character : goal.decreases-loop-character
decreases-loop-character l = length l.rest
