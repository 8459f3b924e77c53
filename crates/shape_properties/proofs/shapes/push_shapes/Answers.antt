use Rattle.std.proofs.Common.{arith}
use Rattle.shape_syntax.proofs.Loops.{gathered_none, gathered_next, gathered_all}
use Rattle.shape_properties.specs.OfProperties.{IsShapeAt}
use Rattle.shape_properties.proofs.shapes.push_shapes.Goals as goal

pub loop-node-init : goal.loop-node-init
loop-node-init c = gathered_none (IsShapeAt c.args.graph.now) c.args.found.now c.args.nodes.now

pub loop-node-preserved : goal.loop-node-preserved
loop-node-preserved c = gathered_next (IsShapeAt c.args.graph.now) c.args.found.now c.loop-node.node-index c.node-item.result c.args.nodes.now c.loop-node.nodes c.push_shape.new.nodes (omega arith) c.node-item.is c.loop-node.invariant c.in_ok-push_shape.ensures

pub returns : goal.returns
returns c = gathered_all (IsShapeAt c.args.graph.now) c.args.found.now c.loop-node.node-index c.args.nodes.now c.loop-node.nodes (omega arith) c.loop-node.invariant
