use Rattle.std.proofs.Common.{◌-◌, ◌+◌, length}
use Rattle.shape_syntax.proofs.Lists.{Segment}
use Rattle.plain_terms.proofs.list.list_members.Given as goal

abbrev pub invariant-loop-alloc : goal.invariant-loop-alloc
invariant-loop-alloc l = Segment l.graph l.head l.members l.node

abbrev pub decreases-loop-alloc : goal.decreases-loop-alloc
decreases-loop-alloc l = length l.graph + 1 - length l.members
