use Rattle.shape_sizes.proofs.ReferenceChains.{found_as}
use Rattle.shape_sizes.proofs.referring.least_recursive.Goals as goal

pub returns : goal.returns
returns c = found_as c.args.graph.now c.args.references.now c.requires c.in_ok-found.found c.in_ok-found.ensures
