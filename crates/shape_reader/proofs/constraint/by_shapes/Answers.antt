use Rattle.shape_reader.proofs.Constraints.{shapes_none, shapes_some}
use Rattle.shape_reader.proofs.constraint.by_shapes.Goals as goal

pub returns-in_ok-clone-in-Some : goal.returns-in_ok-clone-in-Some
returns-in_ok-clone-in-Some c = shapes_some c.args.shape.now.graph c.args.shape.now.nodes c.args.value.now c.in_ok-clone-in-Some.field-0 c.in_ok-clone-in-Some.ensures.cases c.args.component c.in-Some.shapes (rw c.in-Some.is at c.in_ok-shapes.ensures)

pub returns-in-None : goal.returns-in-None
returns-in-None c = shapes_none c.args.shape.now.graph c.args.shape.now.nodes c.args.value.now c.args.component (rw c.in-None.is at c.in_ok-shapes.ensures)
