use Rattle.std.proofs.Common.{◌-◌, ◌+◌, length}
use Rattle.shape_syntax.proofs.Lists.{Segment}
use Rattle.shape_syntax.proofs.list.list_members.Given as goal

abbrev pub invariant-loop-node : goal.invariant-loop-node
invariant-loop-node l = Segment l.graph l.head l.members l.node

abbrev pub decreases-loop-node : goal.decreases-loop-node
decreases-loop-node l = length l.graph + 1 - length l.members
