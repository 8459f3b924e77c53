use Rattle.std.proofs.Common.{◌≡◌, ◌+◌, ℕ, All, length, vec_len}
use Rattle.follow_tests.specs.Workers.{HasPass, IsFirst}
use Rattle.follow_tests.proofs.shared.gather.Given as goal

abbrev pub invariant-loop-worker : goal.invariant-loop-worker
invariant-loop-worker l = IsFirst l.replica.id l.first × (l.first.spare + vec_len l.workers ≡ l.fn.first.spare + vec_len l.fn.workers) × All (λ w. HasPass l.replica.id w.pass) l.workers.items

abbrev pub decreases-loop-worker : goal.decreases-loop-worker
decreases-loop-worker l = length l.workers.items
