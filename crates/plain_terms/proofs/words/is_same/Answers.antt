use Rattle.plain_terms.proofs.Terms.{same_is}
use Rattle.plain_terms.proofs.words.is_same.Goals as goal

pub returns : goal.returns
returns c = same_is _ _ _ c.eq.ensures
