use Rattle.std.proofs.Common.{rules}
use Rattle.turn_lock.proofs.Drawing.{draws_this_at}
use Rattle.turn_lock.proofs.turns.Turns.draw_served.Goals as goal

pub compare_exchange-requires : goal.compare_exchange-requires
compare_exchange-requires g c = (search rules, search rules, draws_this_at _ _ _ _ _ _ _ _ (search rules) c.requires.idle.0 c.requires.idle.1)
