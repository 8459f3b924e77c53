use Rattle.std.proofs.Common.{◌++◌, vec_len}
use Rattle.std.specs.List.Sorted.{IsPermutation}
use Rattle.bgp_query.proofs.plan.planned.Given as goal

abbrev pub invariant-loop-plan : goal.invariant-loop-plan
invariant-loop-plan l = IsPermutation l.patterns (l.plan.items ++ l.left.items)

abbrev pub decreases-loop-plan : goal.decreases-loop-plan
decreases-loop-plan l = vec_len l.left
