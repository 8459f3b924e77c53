use Rattle.std.proofs.Common.{take, []}
use Rattle.shape_syntax.specs.Gathering.{HasGathered}
use Rattle.shape_sizes.specs.PathLooks.{IsStepOf}
use Rattle.shape_sizes.proofs.path_steps.path_steps.Given as goal

abbrev pub invariant-loop-place : goal.invariant-loop-place
invariant-loop-place l = HasGathered IsStepOf (take l.place-index l.places) [] l.steps
