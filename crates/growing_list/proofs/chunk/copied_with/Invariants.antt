use Rattle.std.proofs.Common.{◌≡◌, take}
use Rattle.growing_list.proofs.chunk.copied_with.Given as goal

abbrev pub invariant-loop-kept : goal.invariant-loop-kept
invariant-loop-kept g l = l.copy.items ≡ take l.kept-index l.items
