use Rattle.std.proofs.Common.{◌≡◌, ◌++◌, take}
use Rattle.overlay_view.proofs.kept.add_pairs.Given as goal

abbrev pub invariant-loop-pair : goal.invariant-loop-pair
invariant-loop-pair l = l.into.items ≡ l.fn.into.items ++ take l.pair-index l.pairs
