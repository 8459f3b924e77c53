use Rattle.std.proofs.Common.{◌≡◌}
use Rattle.guard_store.specs.Callers.{IsKeeper}
use Rattle.thread_tests.proofs.by_hand.open_all.Given as goal

abbrev pub invariant-loop-i : goal.invariant-loop-i
invariant-loop-i g l = IsKeeper l.store l.keeper × (l.keeper.pass.spare ≡ 64)
