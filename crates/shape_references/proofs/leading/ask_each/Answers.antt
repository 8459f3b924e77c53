use Rattle.std.proofs.Common.{arith}
use Rattle.shape_references.proofs.Asked.{asked_none, asked_next, asked_all}
use Rattle.shape_references.proofs.leading.ask_each.Goals as goal

pub loop-node-init : goal.loop-node-init
loop-node-init c = rw c.new-left.ensures (asked_none c.args.graph.now c.args.goal.now c.args.waiting.now c.args.known.now.keys)

pub loop-node-preserved : goal.loop-node-preserved
loop-node-preserved c =
    asked_next c.args.graph.now c.args.goal.now c.args.waiting.now c.loop-node.node-index c.node-item.result c.args.known.now.keys c.loop-node.known.keys c.ask.new.known.keys c.loop-node.left c.ask.new.left (omega arith) c.node-item.is c.loop-node.invariant c.in_ok-ask.ensures

pub returns : goal.returns
returns c = asked_all c.args.graph.now c.args.goal.now c.args.waiting.now c.loop-node.node-index c.args.known.now.keys c.loop-node.known.keys c.loop-node.left (omega arith) (omega arith) c.loop-node.invariant
