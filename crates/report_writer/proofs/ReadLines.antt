-- The lines of a result by the parts of its shape, and by the shape as it is read.
use Rattle.std.proofs.Common.{◌≡◌, ◌∙◌, ℕ, List, refl, sym}
use Rattle.std.specs.Prelude.{Option, Some, None, codes}
use Rattle.std.specs.Option.{unwrap_or}
use Rattle.std.proofs.lemmas.List.{map-id}
use Rattle.rdf_model.specs.declared.term.Term.{Term}
use Rattle.path_ast.specs.declared.path.Path.{Path}
use Rattle.path_ast.specs.PathReadings.{optional_path}
use Rattle.shape_ast.specs.declared.shape.Shape.{Shape}
use Rattle.shape_ast.specs.Readings.{read_optional, read_optional_path, read_shape}
use Rattle.shape_model.specs.declared.result_row.ResultRow.{ResultRow}
use Rattle.shape_model.specs.Vocabulary.{sh}
use Rattle.report_writer.specs.CompiledReport.{result_path, shape_lines}
use Rattle.report_writer.specs.Report.{result_lines}

path_read : (path : Option (Path Term)) → optional_path path ≡ read_optional_path (λ (t : Term). t) path
path_read None = refl
path_read (Some path) = refl

term_read : (term : Option Term) → term ≡ read_optional (λ (t : Term). t) term
term_read None = refl
term_read (Some term) = refl

pub lines_read : (label : List ℕ) (r : ResultRow) (shape : Shape Term) (messages : List Term) → messages ≡ shape.messages
    → result_lines label r (result_path (optional_path shape.path) r) (unwrap_or shape.severity (sh (codes "Violation"))) messages ≡ shape_lines label r (read_shape (λ (t : Term). t) shape)
lines_read label r shape messages e = λ i. result_lines label r (result_path (path_read shape.path i) r) (unwrap_or (term_read shape.severity i) (sh (codes "Violation"))) ((e ∙ sym (map-id shape.messages)) i)
