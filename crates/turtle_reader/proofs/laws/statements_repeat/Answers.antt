use Rattle.turtle_reader.proofs.Repeats.{repeats_statements}
use Rattle.turtle_reader.proofs.laws.statements_repeat.Goals as goal

pub returns : goal.returns
returns c = repeats_statements
