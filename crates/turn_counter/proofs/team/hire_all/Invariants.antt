use Rattle.std.proofs.Common.{◌≡◌, ◌+◌, All, vec_len}
use Rattle.turn_counter.specs.Workers.{IsWorker, IsFirst, IsFresh, AreNumbered}
use Rattle.turn_counter.proofs.team.hire_all.Given as goal

abbrev pub invariant-loop-hired : goal.invariant-loop-hired
invariant-loop-hired g l =
    IsFirst l.turns.id l.first × (l.first.spare + vec_len l.workers ≡ l.fn.first.spare) × (vec_len l.workers ≡ l.hired) × IsFresh l.first.known.front (l.hired + 1) × All (IsWorker l.turns.id) l.workers.items × AreNumbered l.workers.items
