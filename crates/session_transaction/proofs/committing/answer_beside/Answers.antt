use Rattle.std.proofs.Common.{Option, Some, subst, sym}
use Rattle.commit_log.specs.Log.{LogState}
use Rattle.commit_core.specs.Logged.{IsBeside}
use Rattle.session_transaction.specs.Logging.{KeepsLog, StandsBeside}
use Rattle.session_transaction.proofs.Logging.{keeps_step}
use Rattle.session_transaction.proofs.committing.answer_beside.Goals as goal

pub returns-in-Some-clause-log : goal.returns-in-Some-clause-log
returns-in-Some-clause-log g c =
    let beside : IsBeside c.args.core.now c.in-Some.log = subst (StandsBeside c.args.core.now) c.in-Some.is c.requires.beside in
    let done = c.commit_logged.ensures in
    subst (λ (o : Option (LogState g.row.D.Denot)). KeepsLog g.D.Disk.tells g.D.Disk.bytes g.D.Disk.history g.D.Disk.chosen g.D.Disk.faults c.args.core.now c.commit_logged.new.self o (Some c.commit_logged.new.log)) (sym c.in-Some.is)
    (keeps_step g.D.Disk.tells g.D.Disk.bytes g.D.Disk.history g.D.Disk.chosen g.D.Disk.faults c.args.core.now c.commit_logged.new.self c.recall_consistent.ensures c.args.session c.args.checked c.in-Some.log c.commit_logged.new.log c.commit_logged.result done.answer done.log done.step done.same beside)
