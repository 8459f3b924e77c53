use Rattle.std.proofs.Common.{take}
use Rattle.shape_sizes.proofs.PathPlaces.{HavePathPlaces}
use Rattle.shape_sizes.proofs.path_looks.places_of.Given as goal

abbrev pub invariant-loop-node : goal.invariant-loop-node
invariant-loop-node l = HavePathPlaces l.graph (take l.node-index l.nodes) l.places
