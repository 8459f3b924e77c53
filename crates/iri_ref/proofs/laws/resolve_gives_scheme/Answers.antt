use Rattle.iri_ref.proofs.Joins.{gives_scheme}
use Rattle.iri_ref.proofs.laws.resolve_gives_scheme.Goals as goal

pub returns : goal.returns
returns c = gives_scheme
