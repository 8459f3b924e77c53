use Rattle.std.proofs.Common.{◌≡◌, take}
use Rattle.collections.proofs.sequence.Sequence.copied_from.Given as goal

abbrev pub invariant-loop-item : goal.invariant-loop-item
invariant-loop-item g l = l.copy ≡ take l.item-index l.items
