use Rattle.std.proofs.Common.{take}
use Rattle.shape_syntax.specs.Gathering.{HasGathered}
use Rattle.shape_rules.specs.Steps.{MeasureRow}
use Rattle.shape_rules.proofs.limits.push_all_measure_rows.Given as goal

abbrev pub invariant-loop-node : goal.invariant-loop-node
invariant-loop-node l = HasGathered (MeasureRow l.graph) (take l.node-index l.nodes) l.fn.rows l.rows
