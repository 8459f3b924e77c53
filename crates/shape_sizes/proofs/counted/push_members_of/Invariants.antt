use Rattle.std.proofs.Common.{take}
use Rattle.shape_sizes.specs.Counted.{HasAdded}
use Rattle.shape_sizes.specs.Sizes.{AreMembersOf}
use Rattle.shape_sizes.proofs.counted.push_members_of.Given as goal

abbrev pub invariant-loop-head : goal.invariant-loop-head
invariant-loop-head l = HasAdded (AreMembersOf l.graph (take l.head-index l.heads)) l.fn.nodes l.nodes
