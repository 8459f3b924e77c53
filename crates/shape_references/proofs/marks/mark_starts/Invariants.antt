use Rattle.std.proofs.Common.{take}
use Rattle.shape_references.specs.declared.steps.Step.{Step}
use Rattle.shape_references.proofs.MarkedChains.{HasMarked}
use Rattle.shape_references.proofs.marks.mark_starts.Given as goal

abbrev pub invariant-loop-step : goal.invariant-loop-step
invariant-loop-step l = HasMarked (λ (s : Step). Unit {0}) (take l.step-index l.steps) l.marks
