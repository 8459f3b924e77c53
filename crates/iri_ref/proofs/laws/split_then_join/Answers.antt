use Rattle.iri_ref.proofs.Joins.{joins_again}
use Rattle.iri_ref.proofs.laws.split_then_join.Goals as goal

pub returns : goal.returns
returns c = joins_again
