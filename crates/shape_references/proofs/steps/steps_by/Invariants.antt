use Rattle.std.proofs.Common.{◌≡◌, map, take}
use Rattle.shape_references.specs.Steps.{step_in}
use Rattle.shape_references.proofs.steps.steps_by.Given as goal

abbrev pub invariant-loop-triple : goal.invariant-loop-triple
invariant-loop-triple l = l.steps ≡ map (step_in l.numbers) (take l.triple-index l.graph)
