use Rattle.plain_validation.proofs.Declared.{values_found}
use Rattle.plain_validation.proofs.targets.values_of.Goals as goal

pub returns : goal.returns
returns c = values_found c.args.graph.now c.args.predicate.now c.in_ok-nodes.nodes c.as_slice.result.now c.in_ok-found.found.items c.from_vec.result c.in_ok-nodes.ensures c.as_slice.ensures c.in_ok-found.ensures c.from_vec.ensures
