use Rattle.std.proofs.Common.{rules, ap, ◌∙◌}
use Rattle.turn_lock.proofs.Drawing.{draws_at}
use Rattle.turn_lock.proofs.turns.Turns.draw.Goals as goal

pub fetch_add-requires : goal.fetch_add-requires
fetch_add-requires g c = let i = c.loop-look.invariant in
    (search rules, search rules, draws_at _ _ _ _ _ _ (ap (λ me. me.0.stage) i.1 ∙ c.requires.idle.0) (ap (λ me. me.1) i.1 ∙ c.requires.idle.1))
