use Rattle.std.proofs.Common.{List, subst, sym}
use Rattle.shape_model.specs.declared.result_row.ResultRow.{ResultRow}
use Rattle.shape_ast.specs.Readings.{read_shapes}
use Rattle.report_writer.specs.Sources.{HaveSources}
use Rattle.report_writer.proofs.Sources.{listing_sources}
use Rattle.session_transaction.proofs.replies.refusal.Goals as goal

pub report-requires : goal.report-requires
report-requires c =
    subst (λ (rows : List ResultRow). HaveSources (read_shapes c.shapes.result.now.shapes) rows) (sym c.as_slice.ensures) (listing_sources c.requires.0 c.args.shapes.now (read_shapes c.shapes.result.now.shapes) c.args.rows.now c.shapes.ensures.shapes.stand c.requires.1)
