use Rattle.shape_reader.proofs.WellFormed.{path_readable}
use Rattle.shape_reader.proofs.path.path_of.Goals as goal

pub read_path-requires-clause-nodes : goal.read_path-requires-clause-nodes
read_path-requires-clause-nodes c = rw c.graph.ensures.value c.paths.ensures

pub want_of_memory-requires-clause-path : goal.want_of_memory-requires-clause-path
want_of_memory-requires-clause-path c = (path_readable c.args.shape.now.graph c.recall.ensures.well_formed c.args.shape.now.node c.recall.ensures.shape c.in-Some.value.now c.in-Err.fault c.in-Some.ensures (rw c.graph.ensures.value at c.in-Err.ensures)).0

pub want_of_memory-requires-clause-shallow : goal.want_of_memory-requires-clause-shallow
want_of_memory-requires-clause-shallow c = (path_readable c.args.shape.now.graph c.recall.ensures.well_formed c.args.shape.now.node c.recall.ensures.shape c.in-Some.value.now c.in-Err.fault c.in-Some.ensures (rw c.graph.ensures.value at c.in-Err.ensures)).1
