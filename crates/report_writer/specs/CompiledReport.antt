-- The text of a validation report by compiled shapes.
use Rattle.std.specs.Prelude.{ℕ, List, [], Option, Some, None, codes, map}
use Rattle.std.specs.List.{find}
use Rattle.std.specs.Option.{unwrap_or}
use Rattle.rdf_model.specs.NTriples.{term_text}
use Rattle.rdf_model.specs.Matching.{same_term}
use Rattle.shape_model.specs.declared.result_row.ResultRow.{ResultRow}
use Rattle.shape_model.specs.Paths.{Path}
use Rattle.shape_model.specs.Vocabulary.{sh}
use Rattle.shape_ast.specs.Readings.{ReadShape}
use Rattle.report_writer.specs.PathTexts.{optional_text}
use Rattle.report_writer.specs.Report.{listed, path_by, report_by, result_lines}

-- the text of the path of a result of a shape with this path (SHACL 3.6.2.2)
abbrev pub result_path : Option Path → ResultRow → List (List ℕ)
result_path path r = path_by r.component (map term_text (listed r.other)) (optional_text path)

-- the lines of a result of the shape, with its severity, which is sh:Violation unless it declares one (SHACL 2.1.4), and
-- its messages (2.1.5)
abbrev pub shape_lines : List ℕ → ResultRow → ReadShape → List ℕ
shape_lines label r c = result_lines label r (result_path c.path r) (unwrap_or c.severity (sh (codes "Violation"))) c.messages

-- a result of no shape has no lines
abbrev pub lines_by : List ℕ → ResultRow → Option ReadShape → List ℕ
lines_by label r None = []
lines_by label r (Some c) = shape_lines label r c

-- the lines of a result, by the shape with the node that is its source
abbrev pub compiled_text : List ReadShape → List ℕ → ResultRow → List ℕ
compiled_text shapes label r = lines_by label r (find (λ c. same_term c.node r.source_shape) shapes)

-- the report of these results by the shapes (SHACL 3.6)
abbrev pub compiled_report : List ReadShape → List ResultRow → List ℕ
compiled_report shapes rows = report_by (compiled_text shapes) rows
