use Rattle.std.proofs.Common.{map}
use Rattle.component_rows.specs.Answers.{Tells}
use Rattle.qualified_shapes.specs.Qualified.{Qualifies}
use Rattle.qualified_shapes.proofs.qualified.are_qualified.Given as goal

abbrev pub invariant-loop-at : goal.invariant-loop-at
invariant-loop-at l = Tells (Qualifies (map (λ a. a.items) l.answers)) l.at l.told.items
