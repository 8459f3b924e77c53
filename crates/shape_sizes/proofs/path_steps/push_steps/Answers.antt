use Rattle.std.proofs.Common.{◌∙◌, sym, arith}
use Rattle.shape_syntax.proofs.Loops.{gathered_none, gathered_next, gathered_all, gave}
use Rattle.shape_sizes.specs.PathLooks.{IsStep}
use Rattle.shape_sizes.proofs.path_steps.push_steps.Goals as goal

pub loop-node-init : goal.loop-node-init
loop-node-init c = gathered_none (IsStep c.args.from.now) c.args.nodes.now c.args.steps.now

pub loop-node-preserved : goal.loop-node-preserved
loop-node-preserved c = gathered_next (IsStep c.args.from.now) c.args.nodes.now c.loop-node.node-index c.node-item.result c.args.steps.now c.loop-node.steps c.push.new.self (omega arith) c.node-item.is c.loop-node.invariant
    (gave (IsStep c.args.from.now c.node-item.result) c.loop-node.steps c.push.new.self _ c.in_ok-push.ensures.ok c.in_ok-step.ensures (λ x e. e ∙ sym c.in_ok-step.ensures))

pub returns : goal.returns
returns c = gathered_all (IsStep c.args.from.now) c.args.nodes.now c.loop-node.node-index c.args.steps.now c.loop-node.steps (omega arith) c.loop-node.invariant
