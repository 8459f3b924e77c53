use Rattle.std.proofs.Common.{◌≡◌, ◌++◌, take, drop}
use Rattle.collections.specs.Ordered.{without_item}
use Rattle.collections.proofs.ordered.taken_place.Given as goal

abbrev pub invariant-loop-i : goal.invariant-loop-i
invariant-loop-i g l = without_item g.T.Ord.cmp l.item l.items ≡ take l.i l.items ++ without_item g.T.Ord.cmp l.item (drop l.i l.items)
