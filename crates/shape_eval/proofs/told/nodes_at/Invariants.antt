use Rattle.std.proofs.Common.{◌≡◌, map, take}
use Rattle.shape_eval.specs.Told.{node_at}
use Rattle.shape_eval.proofs.told.nodes_at.Given as goal

abbrev pub invariant-loop-place : goal.invariant-loop-place
invariant-loop-place l = l.nodes.items ≡ map (node_at l.shapes) (take l.place-index l.places)
