use Rattle.std.proofs.Common.{◌<◌, length}
use Rattle.bgp_query.proofs.plan.next_place.Given as goal

abbrev pub invariant-loop-i : goal.invariant-loop-i
invariant-loop-i l = l.place < length l.left
