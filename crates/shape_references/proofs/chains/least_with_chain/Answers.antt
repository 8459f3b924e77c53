use Rattle.shape_references.proofs.LeastChain.{least_as}
use Rattle.shape_references.proofs.chains.least_with_chain.Goals as goal

pub returns : goal.returns
returns c = least_as c.args.graph.now c.args.count c.in_ok-nodes.nodes.keys c.in_ok-found.found c.in_ok-nodes.ensures c.in_ok-found.ensures
