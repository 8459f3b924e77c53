use Rattle.std.proofs.Common.{rules, ◌≡◌, ◌<◌, [], ◌∷◌, arith, sym, subst, Some}
use Rattle.turn_lock.specs.Meaning.{ComesFrom}
use Rattle.turn_lock.proofs.Lasting.{opens}
use Rattle.turn_lock.proofs.turns.Turns.over.Goals as goal

pub new-requires : goal.new-requires
new-requires g c =
    let seats : c.from.result ≡ c.args.seats = search rules in
    let some_seat : 0 < c.from.result = omega (arith, seats, c.requires.some) in
    let slots : c.push_reserved.new.self.items ≡ Some c.args.state ∷ [] = search rules in
    let start : c.of.result.value ≡ c.args.state = search rules in
    let comes = subst (λ x. ComesFrom g.S.Entries.comes (Some (g.S.Entries.plain x)) (g.S.Entries.plain c.args.state)) (sym start) (g.S.Entries.comes_from_itself c.args.state c.requires.fresh) in
    rw slots (opens _ _ _ c.args.state some_seat c.requires.fresh comes)
