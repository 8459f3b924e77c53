use Rattle.std.proofs.Common.{◌≤◌, take}
use Rattle.std.specs.List.{Contains}
use Rattle.shape_references.specs.declared.steps.Step.{Step}
use Rattle.shape_references.specs.Ranks.{rank_in}
use Rattle.shape_references.proofs.ranks.are_level.Given as goal

abbrev pub invariant-loop-step : goal.invariant-loop-step
invariant-loop-step l = (s : Step) → Contains (take l.step-index l.steps) s → rank_in l.ranks s.from ≤ rank_in l.ranks s.to
