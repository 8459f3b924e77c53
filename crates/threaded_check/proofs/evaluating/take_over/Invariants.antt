use Rattle.std.proofs.Common.{◌≡◌, ◌++◌, take}
use Rattle.threaded_check.proofs.evaluating.take_over.Given as goal

abbrev pub invariant-loop-look : goal.invariant-loop-look
invariant-loop-look l = l.footprint ≡ l.fn.footprint ++ take l.look-index l.looks
