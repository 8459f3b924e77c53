use Rattle.std.proofs.Common.{sym, arith}
use Rattle.shape_syntax.proofs.Loops.{gathered_none, gathered_next, gathered_all, gave}
use Rattle.shape_references.specs.Bundles.{IsInto}
use Rattle.shape_references.proofs.BoundNames.{one_into}
use Rattle.shape_references.proofs.edges.push_into.Goals as goal

pub loop-node-init : goal.loop-node-init
loop-node-init c = gathered_none (IsInto c.args.nodes.now c.args.place) c.args.from.now c.args.edges.now

pub edge_into-requires-clause-node : goal.edge_into-requires-clause-node
edge_into-requires-clause-node c = c.requires.from c.node-item.result (c.loop-node.node-index, omega arith, sym c.node-item.is)

pub loop-node-preserved : goal.loop-node-preserved
loop-node-preserved c =
    let edge = c.in_ok-edge_into.ensures in
    gathered_next (IsInto c.args.nodes.now c.args.place) c.args.from.now c.loop-node.node-index c.node-item.result c.args.edges.now c.loop-node.edges c.push.new.self (omega arith) c.node-item.is c.loop-node.invariant
    (gave (IsInto c.args.nodes.now c.args.place c.node-item.result) c.loop-node.edges c.push.new.self _ c.in_ok-push.ensures.ok edge (λ x e. one_into c.args.nodes.now c.requires.nodes c.args.place c.node-item.result x _ e edge))

pub returns : goal.returns
returns c = gathered_all (IsInto c.args.nodes.now c.args.place) c.args.from.now c.loop-node.node-index c.args.edges.now c.loop-node.edges (omega arith) c.loop-node.invariant
