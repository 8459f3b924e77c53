use Rattle.std.proofs.Common.{◌≡◌, ◌∙◌, ◌++◌, ℕ, List, [], ap, append_assoc, codes, length, string_bytes, subst, sym}
use Rattle.std.specs.Fmt.{decimal}
use Rattle.rdf_model.specs.declared.triple.Triple.{Triple}
use Rattle.rdf_model.specs.Graphs.{with_each}
use Rattle.rdf_model.specs.Numbers.{graph_of}
use Rattle.shape_model.specs.declared.result_row.ResultRow.{ResultRow}
use Rattle.shape_model.specs.Validation.{Listing}
use Rattle.report_writer.specs.Report.{report_text}
use Rattle.report_writer.proofs.Sources.{listing_sources}
use Rattle.session_model.specs.Reports.{IsReportText, ReportedGraph}
use Rattle.session_model.proofs.report.Report.text.Goals as goal

-- the text of a report that holds these results
text_of : (r : ReportedGraph) (g s : List Triple) (rows : List ResultRow) (lines text : List ℕ) → record { graph = g; shapes = s } ≡ r → Listing g s rows → lines ≡ report_text s rows
    → text ≡ codes "report " ++ decimal (length rows) ++ codes "\n" ++ lines ++ codes "end" → IsReportText r text
text_of r g s rows lines text e listing told written = subst (λ (x : ReportedGraph). IsReportText x text) e (
  rows,
  listing,
  written ∙ ap (λ (ts : List ℕ). codes "report " ++ decimal (length rows) ++ codes "\n" ++ ts ++ codes "end") told,
)

flat : (count lines : List ℕ) → count ++ (codes "\n" ++ (lines ++ codes "end")) ≡ count ++ codes "\n" ++ lines ++ codes "end"
flat count lines = sym (append_assoc (count ++ codes "\n") lines (codes "end") ∙ append_assoc count (codes "\n") (lines ++ codes "end"))

pub report-requires : goal.report-requires
report-requires c = rw c.as_slice.ensures (listing_sources _ _ _ _ c.shapes.ensures.shapes.stand c.self.invariant)

pub returns : goal.returns
returns c =
    let told = c.in_ok-lines.ensures.graph c.self.inside.shapes c.shapes.ensures.shapes.stand c.shapes.ensures.well_formed in
    text_of c.args.self.now (with_each [] (graph_of c.self.inside.names.terms c.self.inside.numbers)) c.self.inside.shapes c.self.inside.rows (string_bytes c.in_ok-lines.lines) (string_bytes c.write.new.self) c.self.view_is c.self.invariant (rw c.as_slice.ensures at told) (c.in_ok-write.ensures.bytes ∙ rw (c.new-text.ensures.bytes, c.len-count.ensures) (ap (λ (ts : List ℕ). codes "report " ++ ts) (flat (decimal (length c.self.inside.rows)) (string_bytes c.in_ok-lines.lines))))
