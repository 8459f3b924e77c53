use Rattle.std.proofs.Common.{◌≡◌, true, take}
use Rattle.shape_references.specs.declared.steps.Step.{Step}
use Rattle.shape_references.specs.Steps.{marked_in}
use Rattle.shape_references.proofs.MarkedChains.{HasMarked}
use Rattle.shape_references.proofs.marks.mark_all_before.Given as goal

abbrev pub invariant-loop-step : goal.invariant-loop-step
invariant-loop-step l = HasMarked (λ (s : Step). marked_in l.goals s.to ≡ true) (take l.step-index l.steps) l.marks
