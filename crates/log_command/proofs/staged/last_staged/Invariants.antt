use Rattle.std.proofs.Common.{take}
use Rattle.log_command.proofs.LastStaged.{LastAmong}
use Rattle.log_command.proofs.staged.last_staged.Given as goal

abbrev pub invariant-loop-entry : goal.invariant-loop-entry
invariant-loop-entry l = LastAmong (take l.entry-index l.records) l.last
