use Rattle.std.proofs.Common.{◌≡◌, take}
use Rattle.shape_sizes.proofs.Gathered.{HavePlaces}
use Rattle.shape_sizes.proofs.sizes.places_of.Given as goal

abbrev pub invariant-loop-node : goal.invariant-loop-node
invariant-loop-node l = HavePlaces l.graph (λ m w. w ≡ 1) l.parents (take l.node-index l.nodes) l.places
