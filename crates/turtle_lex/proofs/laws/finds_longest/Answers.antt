use Rattle.turtle_lex.proofs.TokenLaws.{finds_longest}
use Rattle.turtle_lex.proofs.laws.finds_longest.Goals as goal

pub returns : goal.returns
returns c = finds_longest
