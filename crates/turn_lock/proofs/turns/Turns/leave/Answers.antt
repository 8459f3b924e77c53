use Rattle.std.proofs.Common.{rules, ◌≡◌, ◌++◌, [], ◌∷◌, Some, ap, ◌∙◌}
use Rattle.turn_lock.proofs.Unchanged.{notes}
use Rattle.turn_lock.proofs.Ending.{ends_at}
use Rattle.turn_lock.proofs.turns.Turns.leave.Goals as goal

pub swap-asleep-requires : goal.swap-asleep-requires
swap-asleep-requires g c = (search rules, search rules, notes _ _ _ _ _ _ _)

pub fetch_add-requires : goal.fetch_add-requires
fetch_add-requires g c =
    let q = c.requires.entry in
    let was = ap (λ me. me.0) c.exchange-was.ensures.3 ∙ ap (λ me. me.0) c.swap-asleep.ensures.2 in
    let put : c.exchange-was.new.seat.me.1 ≡ (0, Some c.args.state) ∷ [] = search rules in
    (search rules, search rules, ends_at _ _ _ _ _ _ c.args.state q.0 (search rules) put (search rules) (search rules) (search rules) (search rules))

pub invariant_of-result : goal.invariant_of-result
invariant_of-result g c =
    let q = c.requires.entry in
    let was = ap (λ me. me.0) c.exchange-was.ensures.3 ∙ ap (λ me. me.0) c.swap-asleep.ensures.2 in
    let put : c.exchange-was.new.seat.me.1 ≡ (0, Some c.args.state) ∷ [] = search rules in
    let new : g.S.Entries.entries c.args.state ≡ c.exchange-was.new.seat.me.0.known.front ++ q.0 ∷ [] = search rules in
    let told = c.fetch_add.ensures.2 c.args.state q.0 put new in
    (ap (λ v. v.stage) told.0, told.1, ap (λ v. v.olds) told.0 ∙ (ap (λ v. v.olds) was ∙ c.held.invariant.2), ap (λ v. v.spare) told.0 ∙ (ap (λ v. v.spare) was ∙ c.held.invariant.3))
