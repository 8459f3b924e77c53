use Rattle.std.proofs.Common.{take}
use Rattle.shape_sizes.specs.PathLooks.{IsCappedLook}
use Rattle.shape_sizes.proofs.Gathered.{HavePlaces}
use Rattle.shape_sizes.proofs.looks.look_places.Given as goal

abbrev pub invariant-loop-node : goal.invariant-loop-node
invariant-loop-node l = HavePlaces l.graph (IsCappedLook l.graph) l.parents (take l.node-index l.nodes) l.places
