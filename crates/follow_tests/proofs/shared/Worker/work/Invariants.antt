use Rattle.follow_tests.specs.Workers.{HasPass}
use Rattle.follow_tests.proofs.shared.Worker.work.Given as goal

abbrev pub invariant-loop-turn : goal.invariant-loop-turn
invariant-loop-turn g l = HasPass l.replica.id l.self.pass
