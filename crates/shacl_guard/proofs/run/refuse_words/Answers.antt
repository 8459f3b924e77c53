use Rattle.shacl_guard.specs.declared.answer.Answer.{Answer}
use Rattle.shacl_guard.proofs.Outcomes.{plain_written, told_usage, usage_blamed}
use Rattle.shacl_guard.proofs.run.refuse_words.Goals as goal

pub returns-clause-outcome : goal.returns-clause-outcome
returns-clause-outcome g c = λ given held loads none. plain_written (λ (a : Answer). a.status) (λ (a : Answer). a.text) _ _ c.finish.result _ c.told-answer.result none (told_usage (λ (a : Answer). a.status) (λ (a : Answer). a.text) held loads c.told-answer.result c.told-answer.ensures) c.finish.ensures

pub returns-clause-write_fault : goal.returns-clause-write_fault
returns-clause-write_fault g c = usage_blamed (λ (a : Answer). a.status) (λ (a : Answer). a.text) c.finish.result _ _ _ c.told-answer.result c.told-answer.ensures c.finish.ensures
