use Rattle.std.proofs.Common.{◌≡◌, ◌+◌, All, vec_len}
use Rattle.follow_tests.specs.Workers.{HasPass, IsFirst}
use Rattle.follow_tests.proofs.shared.hire_all.Given as goal

abbrev pub invariant-loop-step : goal.invariant-loop-step
invariant-loop-step l = IsFirst l.replica.id l.first × (l.first.spare + vec_len l.workers ≡ l.fn.first.spare) × All (λ w. HasPass l.replica.id w.pass) l.workers.items
