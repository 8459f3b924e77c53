use Rattle.turtle_lex.proofs.TokenLaws.{misses_none}
use Rattle.turtle_lex.proofs.laws.misses_none.Goals as goal

pub returns : goal.returns
returns c = misses_none
