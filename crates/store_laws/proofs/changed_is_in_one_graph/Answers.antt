use Rattle.store_laws.proofs.Changes.{changed_is_in_one_graph}
use Rattle.store_laws.proofs.changed_is_in_one_graph.Goals as goal

pub returns : goal.returns
returns c = changed_is_in_one_graph
