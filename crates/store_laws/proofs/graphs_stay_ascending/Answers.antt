use Rattle.store_laws.proofs.Changes.{graphs_stay_ascending}
use Rattle.store_laws.proofs.graphs_stay_ascending.Goals as goal

pub returns : goal.returns
returns c = graphs_stay_ascending
