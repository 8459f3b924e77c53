use Rattle.std.proofs.Common.{◌≡◌, ◌-◌, ◌<◌, ◌≤◌}
use Rattle.turn_counter.specs.Workers.{IsWorker}
use Rattle.turn_counter.proofs.worker.Worker.work.Given as goal

abbrev pub invariant-loop-self : goal.invariant-loop-self
invariant-loop-self g l = IsWorker l.turns.id l.self × (l.self.number ≡ l.fn.self.number) × (l.fn.self.done ≤ l.self.done) × (l.fn.self.done < l.self.done → l.self.done ≤ l.times)

abbrev pub decreases-loop-self : goal.decreases-loop-self
decreases-loop-self g l = l.times - l.self.done
