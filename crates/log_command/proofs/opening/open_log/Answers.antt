use Rattle.std.proofs.Common.{List, ℕ, subst, sym}
use Rattle.commit_log.specs.Format.{Opens}
use Rattle.log_command.proofs.InStep.{in_step}
use Rattle.log_command.proofs.Stopping.{open_stops_as}
use Rattle.log_command.proofs.opening.open_log.Goals as goal

pub returns-in-Ok-restore-clause-answer : goal.returns-in-Ok-restore-clause-answer
returns-in-Ok-restore-clause-answer g c =
    let records = c.in-Ok-open.records.items in
    let log = c.in-Ok-open.log in
    let stored = c.in-Ok-restore.ensures.answer in record {
      records = records;
      found = record {
        numbered = c.in-Ok-open.ensures.numbered;
        opens = λ it. subst (λ (b : List ℕ). Opens b records) (c.choose.ensures.bytes it) (c.in-Ok-open.ensures.opens it).0;
      };
      are_restored = stored;
      step = in_step g.D.Disk.tells g.D.Disk.bytes g.D.Disk.history c.args.limits records c.in-Ok-restore.core log stored.store c.in-Ok-open.ensures.fresh.0 c.in-Ok-open.ensures.fresh.1
          (λ it. let o = c.in-Ok-open.ensures.opens it in (subst (λ (b : List ℕ). Opens b records) (sym o.1) o.0, o.2));
    }

pub returns-in-Err-clause-answer : goal.returns-in-Err-clause-answer
returns-in-Err-clause-answer g c =
    open_stops_as g.D.Disk.tells (g.D.Disk.bytes c.args.disk) _ c.args.limits _ c.in-Err.fault c.open_fault.result c.choose.ensures.bytes (λ it. (c.in-Err.ensures.opens it).0) c.open_fault.ensures
