use Rattle.shape_references.proofs.BoundNames.{absent, present}
use Rattle.shape_references.proofs.names.name_of.Goals as goal

pub returns : goal.returns
returns c = (c.in-Ok.place, present c.args.node.now c.args.nodes.now c.in-Ok.place c.in-Ok.ensures.bound (c.in-Ok.ensures.ok c.args.node.now), c.in_ok-name_at-in-Ok.ensures)

pub unreachable-requires : goal.unreachable-requires
unreachable-requires c = absent c.args.node.now c.args.nodes.now c.in-Err.field-0 c.requires.nodes c.in-Err.ensures.position c.requires.node
