use Rattle.shape_syntax.proofs.Equals.{same_term}
use Rattle.shape_syntax.proofs.terms.is_same.Goals as goal

pub returns : goal.returns
returns c = rw c.eq.ensures (same_term c.args.term.now c.args.other.now)
