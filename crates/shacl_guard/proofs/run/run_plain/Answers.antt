use Rattle.shacl_guard.specs.declared.answer.Answer.{Answer}
use Rattle.shacl_guard.specs.Outcome.{Call}
use Rattle.shacl_guard.proofs.Outcomes.{plain_complete, plain_written}
use Rattle.shacl_guard.proofs.run.run_plain.Goals as goal

pub returns-clause-outcome : goal.returns-clause-outcome
returns-clause-outcome g c = λ given e. plain_written (λ (a : Answer). a.status) (λ (a : Answer). a.text) _ _ c.finish.result _ c.answer_to-answer.result e c.answer_to-answer.ensures.answer c.finish.ensures

pub returns-clause-complete : goal.returns-clause-complete
returns-clause-complete g c = λ given e there same still.
    let call : Call = record {
      words = given;
      held = g.F.Files.holds c.args.files.now;
      before = record { loads = record { loaded = g.F.Files.loaded c.args.files.now; failed = g.F.Files.failed c.args.files.now; refused = g.M.Maker.refused c.args.maker.now }; taken = g.K.Sink.taken c.args.out.now };
      after = record { loads = record { loaded = g.F.Files.loaded c.answer_to-answer.new.files; failed = g.F.Files.failed c.answer_to-answer.new.files; refused = g.M.Maker.refused c.answer_to-answer.new.maker }; taken = g.K.Sink.taken c.finish.new.out };
    } in
    plain_complete (λ (a : Answer). a.status) (λ (a : Answer). a.text) call _ c.finish.result _ c.answer_to-answer.result e c.answer_to-answer.ensures.answer c.finish.ensures there same still
