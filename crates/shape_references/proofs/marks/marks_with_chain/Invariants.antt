use Rattle.shape_references.specs.Steps.{AreMarks}
use Rattle.shape_references.proofs.marks.marks_with_chain.Given as goal

abbrev pub invariant-loop-length : goal.invariant-loop-length
invariant-loop-length l = AreMarks l.steps l._length l.marks.items
