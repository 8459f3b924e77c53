-- What a session prints of a graph's results.
use Rattle.std.specs.Prelude.{◌≡◌, ℕ, List, ◌++◌, length, codes}
use Rattle.std.specs.Fmt.{decimal}
use Rattle.rdf_model.specs.declared.triple.Triple.{Triple}
use Rattle.shape_model.specs.declared.result_row.ResultRow.{ResultRow}
use Rattle.shape_model.specs.Validation.{Listing}
use Rattle.report_writer.specs.Report.{report_text}

-- a data graph and a shapes graph
pub record ReportedGraph : Type 0 where
  pub graph : List Triple
  pub shapes : List Triple

-- How many results validating the graph has, the report of them, and `end`.
abbrev pub IsReportText : ReportedGraph → List ℕ → Type 0
IsReportText r text = (rows : List ResultRow) × Listing r.graph r.shapes rows × (text ≡ codes "report " ++ decimal (length rows) ++ codes "\n" ++ report_text r.shapes rows ++ codes "end")
