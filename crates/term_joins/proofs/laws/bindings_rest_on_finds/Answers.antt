use Rattle.term_joins.proofs.Standing.{bindings_rest_on_finds}
use Rattle.term_joins.proofs.laws.bindings_rest_on_finds.Goals as goal

pub returns : goal.returns
returns c = bindings_rest_on_finds
