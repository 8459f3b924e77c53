use Rattle.std.proofs.Common.{inl}
use Rattle.shacl_guard.specs.declared.answer.Answer.{Answer}
use Rattle.shacl_guard.proofs.Answering.{verdict_gives, verification_grows}
use Rattle.shacl_guard.proofs.answer.answer_verification.Goals as goal

pub returns-in-Ok-clause-answer : goal.returns-in-Ok-clause-answer
returns-in-Ok-clause-answer g c = verdict_gives (λ (a : Answer). a.status) (λ (a : Answer). a.text) (g.F.Files.holds c.args.files.now) c.args.verified.now _ _ c.in-Ok.verdict c.told_verdict.result c.in-Ok.ensures.answer c.told_verdict.ensures

pub returns-in-Ok-clause-refused : goal.returns-in-Ok-clause-refused
returns-in-Ok-clause-refused g c = verification_grows (g.F.Files.holds c.args.files.now) c.args.verified.now _ _ c.verify_files.result c.verify_files.ensures.answer

pub returns-in-Err-clause-answer : goal.returns-in-Err-clause-answer
returns-in-Err-clause-answer g c = inl (c.in-Err.fault, c.from.ensures, c.in-Err.ensures.answer)

pub returns-in-Err-clause-refused : goal.returns-in-Err-clause-refused
returns-in-Err-clause-refused g c = verification_grows (g.F.Files.holds c.args.files.now) c.args.verified.now _ _ c.verify_files.result c.verify_files.ensures.answer
