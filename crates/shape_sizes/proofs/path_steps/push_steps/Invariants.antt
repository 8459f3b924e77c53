use Rattle.std.proofs.Common.{take}
use Rattle.shape_syntax.specs.Gathering.{HasGathered}
use Rattle.shape_sizes.specs.PathLooks.{IsStep}
use Rattle.shape_sizes.proofs.path_steps.push_steps.Given as goal

abbrev pub invariant-loop-node : goal.invariant-loop-node
invariant-loop-node l = HasGathered (IsStep l.from) (take l.node-index l.nodes) l.fn.steps l.steps
