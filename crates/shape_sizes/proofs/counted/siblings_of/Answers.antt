use Rattle.shape_sizes.proofs.Gathered.{siblings_found}
use Rattle.shape_sizes.proofs.counted.siblings_of.Goals as goal

pub returns : goal.returns
returns c = siblings_found c.args.graph.now c.args.node.now c.push_siblings.new.nodes c.in_ok-sorted.sorted.items (rw c.new-found.ensures at c.in_ok-push_siblings.ensures) (rw c.into_vec.ensures at c.in_ok-sorted.ensures)
