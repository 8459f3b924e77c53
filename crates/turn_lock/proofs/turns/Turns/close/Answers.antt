use Rattle.std.proofs.Common.{rules, ◌≡◌, ◌+◌, sym, ap, ◌∙◌, subst, arith, Some}
use mathlib.Core.Option.{some-injective}
use Rattle.turn_lock.specs.Meaning.{ComesFrom}
use Rattle.turn_lock.specs.Rule.{seats_at}
use Rattle.turn_lock.proofs.Lasting.{closes}
use Rattle.turn_lock.proofs.turns.Turns.close.Goals as goal

pub unwrap-state-requires : goal.unwrap-state-requires
unwrap-state-requires g c =
    let v = c.pass.inside.place.me.0 in
    let all : seats_at v.stage + v.spare ≡ c.self.inside.board.shared.key.seats = omega (arith, ap seats_at c.pass.invariant.0, c.requires.all, ap (λ l. l.seats) c.self.view_is, ap (λ p. p.spare) c.pass.view_is) in
    let q = closes _ _ _ _ _ _ v c.pass.invariant.0 all c.close_with-closed.ensures.values.2 in
    let same : Some q.state ≡ c.take.result = some-injective _ _ (sym q.there ∙ c.take.ensures.value) in
    rw (← same) (search rules)

pub returns-clause-entries : goal.returns-clause-entries
returns-clause-entries g c =
    let v = c.pass.inside.place.me.0 in
    let all : seats_at v.stage + v.spare ≡ c.self.inside.board.shared.key.seats = omega (arith, ap seats_at c.pass.invariant.0, c.requires.all, ap (λ l. l.seats) c.self.view_is, ap (λ p. p.spare) c.pass.view_is) in
    let q = closes _ _ _ _ _ _ v c.pass.invariant.0 all c.close_with-closed.ensures.values.2 in
    let same : Some q.state ≡ c.take.result = some-injective _ _ (sym q.there ∙ c.take.ensures.value) in
    let it : q.state ≡ c.unwrap-state.result = search rules in
    ap g.S.Entries.entries (sym it) ∙ (q.entries ∙ ap (λ p. p.known.front) c.pass.view_is)

pub returns-clause-comes : goal.returns-clause-comes
returns-clause-comes g c =
    let v = c.pass.inside.place.me.0 in
    let all : seats_at v.stage + v.spare ≡ c.self.inside.board.shared.key.seats = omega (arith, ap seats_at c.pass.invariant.0, c.requires.all, ap (λ l. l.seats) c.self.view_is, ap (λ p. p.spare) c.pass.view_is) in
    let q = closes _ _ _ _ _ _ v c.pass.invariant.0 all c.close_with-closed.ensures.values.2 in
    let same : Some q.state ≡ c.take.result = some-injective _ _ (sym q.there ∙ c.take.ensures.value) in
    let it : q.state ≡ c.unwrap-state.result = search rules in
    let opening : v.opening ≡ c.args.pass.opening = ap (λ p. p.opening) c.pass.view_is in
    subst (λ x. ComesFrom g.S.Entries.comes c.args.pass.opening (g.S.Entries.plain x)) it (subst (λ o. ComesFrom g.S.Entries.comes o (g.S.Entries.plain q.state)) opening q.comes)
