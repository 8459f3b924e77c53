use Rattle.shape_properties.proofs.ShapeNodes.{shapes_found}
use Rattle.shape_properties.proofs.shapes.all_shapes.Goals as goal

pub returns : goal.returns
returns c = shapes_found c.args.graph.now c.in_ok-found.found c.in_ok-nodes.nodes c.push_shapes.new.nodes (rw c.as_slice.ensures at c.in_ok-found.ensures) c.in_ok-nodes.ensures (rw c.as_slice-2.ensures at c.in_ok-push_shapes.ensures)
