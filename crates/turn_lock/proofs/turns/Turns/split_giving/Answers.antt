use Rattle.std.proofs.Common.{rules, ◌≡◌, true, arith}
use Rattle.turn_lock.proofs.Splitting.{splits}
use Rattle.turn_lock.proofs.turns.Turns.split_giving.Goals as goal

pub split_seat-new-requires : goal.split_seat-new-requires
split_seat-new-requires g c =
    let first : c.pass.inside.place.me.0.known.first ≡ true = search rules in
    (search rules, search rules, splits _ _ _ g.G.Giving.number _ _ c.pass.invariant.0 first (omega (arith, c.pass.invariant.3)))
