use Rattle.std.proofs.Common.{[]}
use Rattle.log_command.specs.Devices.{seen}
use Rattle.shacl_guard.specs.declared.answer.Answer.{Answer}
use Rattle.shacl_guard.specs.Outcome.{Call}
use Rattle.shacl_guard.proofs.Telling.{log_blamed, log_written}
use Rattle.shacl_guard.proofs.run.run_logged.Goals as goal

pub returns-clause-outcome : goal.returns-clause-outcome
returns-clause-outcome g c = λ given. log_written (λ (a : Answer). a.status) (λ (a : Answer). a.text) g.D.Disk.tells c.args.request.now _ _ _ c.finish.result _ c.answer_with_log-answer.result.0 c.answer_with_log-answer.ensures.answer c.finish.ensures

pub returns-clause-write_fault : goal.returns-clause-write_fault
returns-clause-write_fault g c =
    let call : Call = record {
      words = [];
      held = g.F.Files.holds c.args.files.now;
      before = record { loads = record { loaded = g.F.Files.loaded c.args.files.now; failed = g.F.Files.failed c.args.files.now; refused = g.M.Maker.refused c.args.maker.now }; taken = g.K.Sink.taken c.args.out.now };
      after = record { loads = record { loaded = g.F.Files.loaded c.answer_with_log-answer.new.files; failed = g.F.Files.failed c.answer_with_log-answer.new.files; refused = g.M.Maker.refused c.answer_with_log-answer.new.maker }; taken = g.K.Sink.taken c.finish.new.out };
    } in
    log_blamed (λ (a : Answer). a.status) (λ (a : Answer). a.text) g.D.Disk.tells c.args.request.now call (seen g.D.Disk.bytes g.D.Disk.history g.D.Disk.chosen g.D.Disk.faults c.args.disk) (seen g.D.Disk.bytes g.D.Disk.history g.D.Disk.chosen g.D.Disk.faults c.answer_with_log-answer.result.1) c.finish.result _ c.answer_with_log-answer.result.0 c.answer_with_log-answer.ensures.answer c.finish.ensures
