use Rattle.shape_references.proofs.BoundNames.{present}
use Rattle.shape_references.proofs.names.name_in.Goals as goal

pub returns-in_ok-name_at-in-Ok : goal.returns-in_ok-name_at-in-Ok
returns-in_ok-name_at-in-Ok c = (c.in-Ok.place, present c.args.node.now c.args.nodes.now c.in-Ok.place c.in-Ok.ensures.bound (c.in-Ok.ensures.ok c.args.node.now), c.in_ok-name_at-in-Ok.ensures)
