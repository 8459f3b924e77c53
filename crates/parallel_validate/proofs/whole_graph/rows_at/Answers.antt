use Rattle.std.proofs.Common.{arith}
use Rattle.parallel_validate.proofs.Gathering.{more_node, all_nodes}
use Rattle.parallel_validate.proofs.whole_graph.rows_at.Goals as goal

pub loop-node-preserved : goal.loop-node-preserved
loop-node-preserved g c = record {
  rows = more_node c.args.evaluation.now.terms c.args.evaluation.now.ids c.args.evaluation.now.shapes c.args.shape c.args.nodes.now c.loop-node.node-index c.loop-node.rows.items c.in_ok-more.more.items c.append.new.self.items c.loop-node-test.true c.in_ok-append.ensures.items c.loop-node.invariant.rows c.in_ok-more.ensures;
  steps = let before = c.loop-node.invariant.steps in let taken = c.permit-allowed.ensures in omega (arith, before, taken);
}

pub returns-clause-rows : goal.returns-clause-rows
returns-clause-rows g c = all_nodes c.args.evaluation.now.terms c.args.evaluation.now.ids c.args.evaluation.now.shapes c.args.shape c.args.nodes.now c.loop-node.node-index c.loop-node.rows.items c.loop-node-test.false c.loop-node.invariant.rows

pub returns-clause-steps : goal.returns-clause-steps
returns-clause-steps g c = let counted = c.loop-node.invariant.steps in omega (arith, counted, c.loop-node-test.false, c.loop-node.auto.node-index-end)

pub returns-clause-counted : goal.returns-clause-counted
returns-clause-counted g c = let counted = c.loop-node.invariant.steps in omega (arith, counted)

pub returns-in_err-more-clause-counted : goal.returns-in_err-more-clause-counted
returns-in_err-more-clause-counted g c = let before = c.loop-node.invariant.steps in let taken = c.permit-allowed.ensures in omega (arith, before, taken)

pub returns-in_err-append-clause-counted : goal.returns-in_err-append-clause-counted
returns-in_err-append-clause-counted g c = let before = c.loop-node.invariant.steps in let taken = c.permit-allowed.ensures in omega (arith, before, taken)
