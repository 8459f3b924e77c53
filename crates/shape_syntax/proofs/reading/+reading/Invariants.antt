use Rattle.std.proofs.Common.{◌+◌, ◌*◌, map, take}
use Rattle.path_ast.specs.PathReadings.{defined_path}
use Rattle.shape_syntax.specs.PathWays.{AreRead}
use Rattle.shape_syntax.proofs.reading.+reading.Given as goal

abbrev pub decreases-read_at : goal.decreases-read_at
decreases-read_at l = 5 * l.levels

abbrev pub decreases-read_below : goal.decreases-read_below
decreases-read_below l = 5 * l.levels + 4

abbrev pub decreases-read_each : goal.decreases-read_each
decreases-read_each l = 5 * l.levels + 1

abbrev pub decreases-read_list : goal.decreases-read_list
decreases-read_list l = 5 * l.levels + 2

abbrev pub decreases-read_modified : goal.decreases-read_modified
decreases-read_modified l = 5 * l.levels + 3

abbrev pub invariant-read_each-loop-node : goal.invariant-read_each-loop-node
invariant-read_each-loop-node l = AreRead l.graph (take l.node-index l.nodes) l.levels (map defined_path l.paths.items)
