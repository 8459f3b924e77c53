use Rattle.std.proofs.Common.{◌≡◌, ◌+◌, take}
use Rattle.parallel_validate.specs.Whole.{CollectsAtNodes}
use Rattle.parallel_validate.proofs.whole_graph.rows_at.Given as goal

abbrev pub invariant-loop-node : goal.invariant-loop-node
invariant-loop-node g l = record {
  rows : CollectsAtNodes l.evaluation.terms l.evaluation.ids l.evaluation.shapes l.shape (take l.node-index l.nodes) l.rows.items;
  steps : l.steps ≡ l.fn.steps + l.node-index;
}
