use Rattle.store_laws.proofs.Versions.{unchanged_triples_stay}
use Rattle.store_laws.proofs.unchanged_triples_stay.Goals as goal

pub returns : goal.returns
returns c = unchanged_triples_stay
