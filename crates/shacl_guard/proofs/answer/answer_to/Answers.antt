use Rattle.std.proofs.Common.{inl}
use Rattle.shacl_guard.specs.declared.answer.Answer.{Answer}
use Rattle.shacl_guard.proofs.Answering.{told_request}
use Rattle.shacl_guard.proofs.answer.answer_to.Goals as goal

pub returns-in-Ok-clause-answer : goal.returns-in-Ok-clause-answer
returns-in-Ok-clause-answer g c = inl c.in-Ok.ensures.answer

pub returns-in-Err-clause-answer : goal.returns-in-Err-clause-answer
returns-in-Err-clause-answer g c = told_request (λ (a : Answer). a.status) (λ (a : Answer). a.text) (g.F.Files.holds c.args.files.now) c.args.request.now _ _ c.in-Err.status c.told.result c.in-Err.ensures.answer c.told.ensures
