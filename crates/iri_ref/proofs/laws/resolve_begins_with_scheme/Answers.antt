use Rattle.iri_ref.proofs.Joins.{begins_with_scheme}
use Rattle.iri_ref.proofs.laws.resolve_begins_with_scheme.Goals as goal

pub returns : goal.returns
returns c = begins_with_scheme
