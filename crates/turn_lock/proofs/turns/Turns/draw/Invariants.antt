use Rattle.std.proofs.Common.{◌≡◌}
use Rattle.turn_lock.proofs.turns.Turns.draw.Given as goal

-- no ticket was drawn yet
abbrev pub invariant-loop-look : goal.invariant-loop-look
invariant-loop-look g l = (l.place.table_id ≡ l.fn.place.table_id) × (l.place.me ≡ l.fn.place.me)
