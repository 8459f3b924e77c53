use Rattle.std.proofs.Common.{rules, ◌∷◌, ap, sym, ◌∙◌, Some}
use Rattle.atomic_table.specs.Table.{rest}
use Rattle.turn_lock.proofs.Looking.{looks_at, told_mine}
use Rattle.turn_lock.proofs.turns.Turns.enter.Goals as goal

pub load-serving-requires : goal.load-serving-requires
load-serving-requires g c = let i = c.loop.invariant in (search rules, search rules, looks_at _ _ _ c.self.invariant.2 _ _ _ i.0 i.1 i.3 i.4)

pub exchange-requires : goal.exchange-requires
exchange-requires g c = let i = c.loop.invariant in
    let q = told_mine _ _ _ _ _ i.0 i.1 i.2 c.if-serving-ticket.true c.load-serving.ensures.2 in
    (search rules, (Some q.state, q.slot ∙ ap (λ cs. (0, Some q.state) ∷ rest cs) (sym q.slot)))
