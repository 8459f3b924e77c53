use Rattle.std.proofs.Common.{◌≡◌, ◌++◌, take}
use Rattle.page_tree.proofs.parts.add_clones.Given as goal

abbrev pub invariant-loop-item : goal.invariant-loop-item
invariant-loop-item g l = l.into.items ≡ l.fn.into.items ++ take l.item-index l.items
