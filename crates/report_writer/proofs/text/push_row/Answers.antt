use Rattle.std.proofs.Common.{◌≡◌, ◌∙◌, ◌++◌, string_bytes, sym, ap}
use Rattle.std.specs.Prelude.{Option, Some}
use Rattle.std.specs.Option.{option_copied, option_map}
use Rattle.std.proofs.lemmas.Result.{on_ok_weaker}
use Rattle.rdf_model.specs.declared.term.Term.{Term}
use Rattle.shape_ast.specs.declared.shape.Shape.{Shape}
use Rattle.report_writer.specs.CompiledReport.{lines_by}
use Rattle.report_writer.specs.Tables.{shape_at}
use Rattle.report_writer.proofs.Finding.{as_read, is_found}
use Rattle.report_writer.proofs.text.push_row.Goals as goal

pub unwrap-shape-requires : goal.unwrap-shape-requires
unwrap-shape-requires c = is_found c.shape_of.result (rw c.shape_of.ensures c.requires)

pub returns : goal.returns
returns c =
    let row = c.args.row.now in
    let e : shape_at c.args.shapes.now row.source_shape ≡ Some c.unwrap-shape.result.now = sym c.shape_of.ensures ∙ ap option_copied c.unwrap-shape.ensures in
    on_ok_weaker c.push_result.result (λ h. h ∙ ap (λ (shape : Option (Shape Term)). string_bytes c.args.out.now ++ lines_by c.args.label.now row (option_map as_read shape)) (sym e)) c.push_result.ensures
