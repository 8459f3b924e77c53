use Rattle.shacl_guard.proofs.logged.give_with_log.Goals as goal

pub returns-in-Create-clause-answer : goal.returns-in-Create-clause-answer
returns-in-Create-clause-answer g c = rw c.in-Create.is (rw c.as_str.ensures at c.answer_creation.ensures.answer (g.F.Files.holds c.args.files.now) _)
