use Rattle.std.proofs.Common.{◌≡◌, ◌++◌, ◌+◌, string_bytes, drop}
use Rattle.report_writer.specs.Report.{results_by}
use Rattle.report_writer.specs.Tables.{row_lines}
use Rattle.report_writer.proofs.text.push_rows.Given as goal

abbrev pub invariant-loop-i : goal.invariant-loop-i
invariant-loop-i l = string_bytes l.out ++ results_by (row_lines l.shapes) (l.i + 1) (drop l.i l.rows) ≡ string_bytes l.fn.out ++ results_by (row_lines l.shapes) 1 l.rows
