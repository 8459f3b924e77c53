use Rattle.std.proofs.Common.{take}
use Rattle.report_writer.specs.Tables.{HasFirsts}
use Rattle.report_writer.proofs.tables.first_shapes.Given as goal

-- each node has the first of the shapes so far
abbrev pub invariant-loop-shape : goal.invariant-loop-shape
invariant-loop-shape l = HasFirsts (take l.shape-index l.shapes) l.table
