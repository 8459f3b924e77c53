use Rattle.shacl_guard.proofs.Answering.{validation_grows}
use Rattle.shacl_guard.proofs.answer.answer_validation.Goals as goal

pub returns-in-Ok-clause-answer : goal.returns-in-Ok-clause-answer
returns-in-Ok-clause-answer g c = (c.in-Ok.validation.conforms, c.of_conforms.ensures, c.in-Ok.ensures.answer)

pub returns-in-Ok-clause-refused : goal.returns-in-Ok-clause-refused
returns-in-Ok-clause-refused g c = validation_grows (g.F.Files.holds c.args.files.now) c.args.validated.now _ _ c.validate_files.result c.validate_files.ensures.answer

pub returns-in-Err-clause-refused : goal.returns-in-Err-clause-refused
returns-in-Err-clause-refused g c = validation_grows (g.F.Files.holds c.args.files.now) c.args.validated.now _ _ c.validate_files.result c.validate_files.ensures.answer
