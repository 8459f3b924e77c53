use Rattle.std.proofs.Common.{take}
use Rattle.bgp_query.specs.Trails.{IsFree}
use Rattle.bgp_query.proofs.trail.number_of.Given as goal

abbrev pub invariant-loop-bound : goal.invariant-loop-bound
invariant-loop-bound l = IsFree (take l.bound-index l.trail) l.variable
