use Rattle.std.proofs.Common.{◌≡◌, ◌++◌, take, drop}
use Rattle.collections.specs.Ordered.{with_item}
use Rattle.collections.proofs.ordered.free_place.Given as goal

abbrev pub invariant-loop-i : goal.invariant-loop-i
invariant-loop-i g l = with_item g.T.Ord.cmp l.item l.items ≡ take l.i l.items ++ with_item g.T.Ord.cmp l.item (drop l.i l.items)
