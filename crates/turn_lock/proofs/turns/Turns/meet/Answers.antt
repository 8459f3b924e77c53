use Rattle.std.proofs.Common.{rules, ◌≡◌, true}
use Rattle.turn_lock.proofs.Meeting.{joins, compares}
use Rattle.turn_lock.proofs.turns.Turns.meet.Goals as goal

pub join_seat-requires : goal.join_seat-requires
join_seat-requires g c =
    let first : c.pass.inside.place.me.0.known.first ≡ true = search rules in
    (search rules, search rules, search rules, search rules, joins _ _ _ _ _ _ _ c.pass.invariant.0 c.other.invariant.0 first)

pub load-requires : goal.load-requires
load-requires g c = (search rules, search rules, compares _ _ _ c.self.invariant.2 _ _ _ (search rules))
