use Rattle.std.proofs.Common.{arith}
use Rattle.shape_syntax.proofs.Loops.{gathered_none, gathered_next, gathered_all}
use Rattle.shape_syntax.proofs.Scans.{read_in}
use Rattle.shape_rules.specs.Steps.{MeasureRow}
use Rattle.shape_rules.proofs.limits.push_all_measure_rows.Goals as goal

pub loop-node-init : goal.loop-node-init
loop-node-init c = gathered_none (MeasureRow c.args.graph.now) c.args.nodes.now c.args.rows.now

pub push_measure_rows-requires-clause-node : goal.push_measure_rows-requires-clause-node
push_measure_rows-requires-clause-node c = (c.requires.nodes.members c.node-item.result).0 (read_in c.args.nodes.now c.loop-node.node-index c.node-item.result (omega arith) c.node-item.is)

pub loop-node-preserved : goal.loop-node-preserved
loop-node-preserved c = gathered_next (MeasureRow c.args.graph.now) c.args.nodes.now c.loop-node.node-index c.node-item.result c.args.rows.now c.loop-node.rows c.push_measure_rows.new.rows (omega arith) c.node-item.is c.loop-node.invariant c.in_ok-push_measure_rows.ensures

pub returns : goal.returns
returns c = gathered_all (MeasureRow c.args.graph.now) c.args.nodes.now c.loop-node.node-index c.args.rows.now c.loop-node.rows (omega arith) c.loop-node.invariant
