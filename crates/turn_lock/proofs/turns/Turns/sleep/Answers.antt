use Rattle.std.proofs.Common.{rules}
use Rattle.turn_lock.proofs.Unchanged.{notes}
use Rattle.turn_lock.proofs.turns.Turns.sleep.Goals as goal

pub store-requires : goal.store-requires
store-requires g c = (search rules, search rules, notes _ _ _ _ _ _ _)

pub store-requires-2 : goal.store-requires-2
store-requires-2 g c = (search rules, search rules, notes _ _ _ _ _ _ _)
