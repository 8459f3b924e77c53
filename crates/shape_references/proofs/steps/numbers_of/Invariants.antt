use Rattle.shape_references.proofs.NumberedNodes.{AreNumbered}
use Rattle.shape_references.proofs.steps.numbers_of.Given as goal

abbrev pub invariant-loop-index : goal.invariant-loop-index
invariant-loop-index l = AreNumbered l.graph l.index l.numbers
