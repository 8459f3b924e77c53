use Rattle.turtle_lex.proofs.TokenLaws.{stands_alone}
use Rattle.turtle_lex.proofs.laws.stands_alone.Goals as goal

pub returns : goal.returns
returns c = stands_alone
