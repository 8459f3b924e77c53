use Rattle.std.proofs.Common.{◌∙◌, ◌++◌, List, ap, ℕ}
use Rattle.shape_ast.specs.Readings.{read_shapes}
use Rattle.report_writer.specs.CompiledReport.{compiled_text}
use Rattle.report_writer.specs.Report.{results_by}
use Rattle.report_writer.specs.Tables.{row_lines}
use Rattle.report_writer.proofs.FirstShapes.{has_sources, table_lines}
use Rattle.report_writer.proofs.Results.{after_head, report_same}
use Rattle.report_writer.proofs.text.written.Goals as goal

pub push_rows-requires : goal.push_rows-requires
push_rows-requires c = has_sources c.args.shapes.now c.in_ok-table.table c.in_ok-table.ensures c.args.rows.now c.requires

pub returns : goal.returns
returns c =
    let rows = c.args.rows.now in
    let table = c.in_ok-table.table in
    c.in_ok-push_rows.ensures
    ∙ ap (λ (head : List ℕ). head ++ results_by (row_lines table) 1 rows) c.in_ok-out.ensures
    ∙ after_head (row_lines table) rows
    ∙ report_same (row_lines table) (compiled_text (read_shapes c.args.shapes.now)) rows (λ r i label. table_lines c.args.shapes.now table c.in_ok-table.ensures r label)
