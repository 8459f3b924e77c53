use Rattle.iri_ref.proofs.Joins.{keeps_with_scheme}
use Rattle.iri_ref.proofs.laws.resolve_with_scheme.Goals as goal

pub returns : goal.returns
returns c = keeps_with_scheme
