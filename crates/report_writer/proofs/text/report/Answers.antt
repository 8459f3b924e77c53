use Rattle.std.proofs.Common.{◌∙◌, List, ap, subst, sym}
use Rattle.rdf_model.specs.declared.term.Term.{Term}
use Rattle.shape_ast.specs.declared.shape.Shape.{Shape}
use Rattle.shape_ast.specs.Readings.{read_shapes}
use Rattle.report_writer.specs.CompiledReport.{compiled_report}
use Rattle.report_writer.specs.Sources.{HaveSources}
use Rattle.report_writer.proofs.Graphs.{by_graph}
use Rattle.report_writer.proofs.text.report.Goals as goal

pub written-requires : goal.written-requires
written-requires c = subst (λ (shapes : List (Shape Term)). HaveSources (read_shapes shapes) c.args.rows.now) (sym c.as_slice.ensures) c.requires

pub returns-clause-shapes : goal.returns-clause-shapes
returns-clause-shapes c = c.in_ok-written.ensures ∙ ap (λ (shapes : List (Shape Term)). compiled_report (read_shapes shapes) c.args.rows.now) c.as_slice.ensures

pub returns-clause-graph : goal.returns-clause-graph
returns-clause-graph c = λ s stand well.
    c.in_ok-written.ensures ∙ ap (λ (shapes : List (Shape Term)). compiled_report (read_shapes shapes) c.args.rows.now) c.as_slice.ensures
    ∙ by_graph (read_shapes c.args.shapes.now.shapes) s stand well c.args.rows.now c.requires
