use Rattle.term_joins.proofs.Standing.{bindings_are_all}
use Rattle.term_joins.proofs.laws.bindings_are_all.Goals as goal

pub returns : goal.returns
returns c = bindings_are_all
