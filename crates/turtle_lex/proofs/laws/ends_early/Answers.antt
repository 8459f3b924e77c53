use Rattle.turtle_lex.proofs.EarlyEnd.{ends_early}
use Rattle.turtle_lex.proofs.laws.ends_early.Goals as goal

pub returns : goal.returns
returns c = ends_early
