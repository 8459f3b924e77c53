use Rattle.shacl_guard.specs.declared.answer.Answer.{Answer}
use Rattle.shacl_guard.proofs.Telling.{told_log}
use Rattle.shacl_guard.proofs.logged.answer_with_log.Goals as goal

pub returns-in-Err-clause-answer : goal.returns-in-Err-clause-answer
returns-in-Err-clause-answer g c = told_log (λ (a : Answer). a.status) (λ (a : Answer). a.text) g.D.Disk.tells _ c.args.request.now _ _ _ _ c.in-Err.status c.told.result (rw c.in-Err.is at c.give_with_log-answer.ensures.answer) c.told.ensures
