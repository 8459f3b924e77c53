use Rattle.ntriples_text.proofs.TokenLaws.{stands_alone}
use Rattle.ntriples_text.proofs.laws.stands_alone.Goals as goal

pub returns : goal.returns
returns c = stands_alone
