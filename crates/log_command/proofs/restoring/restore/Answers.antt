use Rattle.std.proofs.Common.{◌≡◌, List, length, rules, subst}
use Rattle.record_text.specs.declared.record.Record.{Record}
use Rattle.log_command.specs.Restoring.{IsReady, StopsRestore}
use Rattle.log_command.proofs.Stopping.{told_by_records}
use Rattle.log_command.proofs.restoring.restore.Goals as goal

pub returns-in-Err-clause-answer : goal.returns-in-Err-clause-answer
returns-in-Err-clause-answer g c = subst (λ (rs : List Record). StopsRestore c.args.limits rs (g.M.Maker.refused c.args.maker.now) (g.M.Maker.refused c.shapes_and_numbers.new.maker) c.in-Err.fault) c.deref.ensures.value (c.in-Err.ensures.answer c.args.limits)

pub returns-in-Ok-restore_counted-clause-answer : goal.returns-in-Ok-restore_counted-clause-answer
returns-in-Ok-restore_counted-clause-answer g c =
    let ready = subst (λ (rs : List Record). IsReady rs c.args.sessions c.in-Ok.both.0 c.in-Ok.both.1) c.deref.ensures.value c.in-Ok.ensures.answer in record {
      unspent = ready.unspent;
      well_formed = ready.well_formed;
      store = c.in-Ok-restore_counted.ensures;
      first_is = ready.first_is;
      first_within = ready.first_within;
    }

pub returns-in-Err-restore_counted-clause-answer : goal.returns-in-Err-restore_counted-clause-answer
returns-in-Err-restore_counted-clause-answer g c =
    let ready = subst (λ (rs : List Record). IsReady rs c.args.sessions c.in-Ok.both.0 c.in-Ok.both.1) c.deref.ensures.value c.in-Ok.ensures.answer in
    let count : c.len-count.result ≡ length c.args.records.items = search rules in
    told_by_records c.args.limits c.args.records.items _ _ c.in-Err-restore_counted.fault c.len-count.result c.restore_fault.result ready.unspent ready.well_formed c.in-Ok.ensures.refused c.in-Err-restore_counted.ensures count c.restore_fault.ensures
