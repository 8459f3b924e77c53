use Rattle.ntriples_text.proofs.TokenLaws.{misses_none}
use Rattle.ntriples_text.proofs.laws.misses_none.Goals as goal

pub returns : goal.returns
returns c = misses_none
