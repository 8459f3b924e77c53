use Rattle.std.proofs.Common.{◌≤◌}
use Rattle.thread_tests.proofs.held.commands_of.Given as goal

abbrev pub invariant-loop-file : goal.invariant-loop-file
invariant-loop-file l = 1 ≤ l.session
