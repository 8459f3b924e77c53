use Rattle.shape_sizes.proofs.PathSums.{are_looks}
use Rattle.shape_sizes.proofs.path_looks.path_looks.Goals as goal

pub returns : goal.returns
returns c = are_looks c.args.graph.now c.args.places.now c.requires.places c.args.most c.in_ok-table.table c.in_ok-table.ensures
