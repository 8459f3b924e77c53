use Rattle.std.proofs.Common.{◌∙◌, List, ap, subst, sym}
use Rattle.shape_ast.specs.Readings.{read_shapes}
use Rattle.shape_model.specs.declared.result_row.ResultRow.{ResultRow}
use Rattle.rdf_model.specs.Numbers.{graph_of}
use Rattle.report_writer.specs.Report.{report_text}
use Rattle.report_writer.specs.Sources.{HaveSources}
use Rattle.report_writer.proofs.Sources.{listing_sources}
use Rattle.file_validation.proofs.Members.{own_index}
use Rattle.file_validation.proofs.validating.validation_of.Goals as goal

pub report-requires : goal.report-requires
report-requires g c =
    let shapes = read_shapes c.shapes.result.now.shapes in
    let names = c.args.graph.names in
    let triples = c.args.graph.triples in
    let own = graph_of names triples in
    let sources = listing_sources own c.args.shapes.now shapes c.in_ok-rows.rows c.shapes.ensures.shapes.stand (c.in_ok-rows.ensures own (own_index names triples c.requires)) in
    subst (λ (rows : List ResultRow). HaveSources shapes rows) (sym c.as_slice.ensures) sources

pub returns : goal.returns
returns g c = λ graph is. record {
  rows = c.in_ok-rows.rows;
  listing = c.in_ok-rows.ensures graph is;
  report = c.in_ok-from_string.ensures ∙ c.in_ok-text.ensures.graph c.args.shapes.now c.shapes.ensures.shapes.stand c.shapes.ensures.well_formed ∙ ap (report_text c.args.shapes.now) c.as_slice.ensures;
  conforms = c.is_empty.ensures;
}
