use Rattle.shape_reader.proofs.Constraints.{shapes_told}
use Rattle.shape_reader.proofs.constraint.shapes_of.Goals as goal

pub returns-in_ok-places-in-Some : goal.returns-in_ok-places-in-Some
returns-in_ok-places-in-Some c = shapes_told c.args.shape.now.graph c.args.shape.now.nodes c.args.head.now c.in-Some.members (rw c.in-Some.is at c.in_ok-members.ensures) _ (rw c.as_slice.ensures at c.in_ok-places-in-Some.ensures)
