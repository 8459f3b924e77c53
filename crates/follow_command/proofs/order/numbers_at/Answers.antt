use Rattle.std.proofs.Common.{◌+◌, List, ℕ, [], ap, Bor}
use Rattle.follow_command.proofs.Ordering.{first_bad, none_named, place_split}
use Rattle.follow_command.proofs.order.numbers_at.Goals as goal

pub returns-in_default : goal.returns-in_default
returns-in_default c =
    let at = place_split (λ (p : Bor (List ℕ)). p.now) c.args.places.now c.loop-place.place-index (record { ref_ptr = (0, 0); now = [] }) c.loop-place-test.true in
    first_bad c.args.count (c.len.result + 1) _ _ _ at.0 c.loop-place.numbers at.1 c.loop-place.invariant (none_named _ _ _ c.in_default.is c.in_ok-found.ensures) (ap (λ k. k + 1) c.len.ensures)
