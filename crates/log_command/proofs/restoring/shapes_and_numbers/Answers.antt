use Rattle.std.proofs.Common.{rules}
use Rattle.log_command.proofs.Stopping.{by_shapes}
use Rattle.log_command.proofs.restoring.shapes_and_numbers.Goals as goal

pub returns-in-Err-clause-answer : goal.returns-in-Err-clause-answer
returns-in-Err-clause-answer g c = λ l. by_shapes l c.args.records.now _ _ c.in-Err.fault (search rules) c.in-Err.ensures.answer
