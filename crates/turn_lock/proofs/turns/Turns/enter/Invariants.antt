use Rattle.std.proofs.Common.{◌≡◌, ℕ, ◌%◌, ◌^◌, []}
use Rattle.turn_lock.specs.declared.view.Stage.TheVariants.{Waiting}
use Rattle.turn_lock.proofs.turns.Turns.enter.Given as goal

-- the seat waits with the ticket, and is else what the pass was
abbrev pub invariant-loop : goal.invariant-loop
invariant-loop g l =
    (t : ℕ) × (l.place.me.0.stage ≡ Waiting t) × (t % 2 ^ 64 ≡ l.ticket) × (l.place.me.1 ≡ []) × (l.place.me.0.olds ≡ []) × (l.place.me.0.spare ≡ l.spare)
    × (record { lock = l.place.table_id; known = l.place.me.0.known; spare = l.place.me.0.spare; opening = l.place.me.0.opening; own = l.place.me.0.own } ≡ l.fn.pass)
