use Rattle.std.proofs.Common.{◌≡◌, ◌+◌, ◌<◌, ◌≤◌, ℕ, All, length, vec_len}
use Rattle.turn_counter.specs.Workers.{IsWorker, IsFirst, AreNumbered, HasAdded}
use Rattle.turn_counter.proofs.team.gather.Given as goal

abbrev pub invariant-loop-worker : goal.invariant-loop-worker
invariant-loop-worker l =
    IsFirst l.turns.id l.first × (l.first.spare + vec_len l.workers ≡ l.fn.first.spare + vec_len l.fn.workers) × All (IsWorker l.turns.id) l.workers.items × AreNumbered l.workers.items
    × ((k : ℕ) → vec_len l.workers ≤ k → k < vec_len l.fn.workers → HasAdded l.turns.id (k + 1) (l.times + 1) l.first)

abbrev pub decreases-loop-worker : goal.decreases-loop-worker
decreases-loop-worker l = length l.workers.items
