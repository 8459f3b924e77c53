use Rattle.ntriples_text.proofs.TokenLaws.{finds_longest}
use Rattle.ntriples_text.proofs.laws.finds_longest.Goals as goal

pub returns : goal.returns
returns c = finds_longest
