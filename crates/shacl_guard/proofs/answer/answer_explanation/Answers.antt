use Rattle.shacl_guard.proofs.Answering.{explanation_grows}
use Rattle.shacl_guard.proofs.answer.answer_explanation.Goals as goal

pub returns-in-Ok-clause-answer : goal.returns-in-Ok-clause-answer
returns-in-Ok-clause-answer g c = (c.in-Ok.explanation.conforms, c.of_conforms.ensures, c.in-Ok.ensures.answer)

pub returns-in-Ok-clause-refused : goal.returns-in-Ok-clause-refused
returns-in-Ok-clause-refused g c = explanation_grows (g.F.Files.holds c.args.files.now) c.args.explained.now _ _ c.explain_files.result c.explain_files.ensures.answer

pub returns-in-Err-clause-refused : goal.returns-in-Err-clause-refused
returns-in-Err-clause-refused g c = explanation_grows (g.F.Files.holds c.args.files.now) c.args.explained.now _ _ c.explain_files.result c.explain_files.ensures.answer
