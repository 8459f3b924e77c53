use Rattle.shape_sizes.proofs.ReferenceChains.{found_long_as}
use Rattle.shape_sizes.proofs.referring.least_with_long_chain.Goals as goal

pub returns : goal.returns
returns c = found_long_as c.args.graph.now c.args.references.now c.requires c.in_ok-found.found (rw c.too_many.ensures.limit at c.in_ok-found.ensures)
