use Rattle.std.proofs.Common.{◌≤◌}
use Rattle.parallel_validate.specs.Counting.{StepsOfFirst}
use Rattle.parallel_validate.specs.Whole.{CollectsResults}
use Rattle.parallel_validate.proofs.whole_graph.all_rows.Given as goal

abbrev pub invariant-loop-shape : goal.invariant-loop-shape
invariant-loop-shape g l = record {
  rows : CollectsResults l.evaluation.terms l.evaluation.ids l.evaluation.shapes l.shape l.rows.items;
  steps : StepsOfFirst l.evaluation.terms l.evaluation.ids l.evaluation.shapes l.shape l.fn.steps l.steps;
  counted : l.fn.steps ≤ l.steps;
}
