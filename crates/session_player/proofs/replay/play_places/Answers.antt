use Rattle.std.proofs.Common.{None, Some}
use Rattle.session_player.proofs.Seats.{at_place, stops_next, plays_next}
use Rattle.session_player.proofs.replay.play_places.Goals as goal

pub returns-in_default : goal.returns-in_default
returns-in_default g c = stops_next c.args.places.now c.loop-i.i None _ _ _ _ c.loop-i.invariant.so_far c.loop-i-test.true (at_place _ _ _ _ c.loop-i-test.true c.in_default.is) tt

pub returns-then-not-branch : goal.returns-then-not-branch
returns-then-not-branch g c =
    stops_next c.args.places.now c.loop-i.i (Some c.in-Some.session) _ _ _ _ c.loop-i.invariant.so_far c.loop-i-test.true (at_place _ _ _ _ c.loop-i-test.true c.in-Some.is) (rw c.if-not-branch.true at c.in_ok-take_place.ensures.taken)

pub loop-i-preserved : goal.loop-i-preserved
loop-i-preserved g c =
    let taken = rw c.if-not-branch.false at c.in_ok-take_place.ensures.taken in
    record {
      so_far = plays_next c.args.places.now c.loop-i.i c.in-Some.session _ _ _ _ _ _ c.loop-i.invariant.so_far c.loop-i-test.true (at_place _ _ _ _ c.loop-i-test.true c.in-Some.is) taken.0 taken.1;
      opened = c.in_ok-take_place.ensures.opened c.if-not-branch.false;
    }
