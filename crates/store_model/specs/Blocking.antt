-- Which results keep a commit from being accepted.
use Rattle.std.specs.Prelude.{◌≡◌, Bool, true, false, not, ◌||◌, List, codes}
use Rattle.std.specs.List.{list_any}
use Rattle.rdf_model.specs.declared.term.Term.{Term}
use Rattle.rdf_model.specs.declared.triple.Triple.{Triple}
use Rattle.rdf_model.specs.Matching.{same_term}
use Rattle.shape_model.specs.declared.result_row.ResultRow.{ResultRow}
use Rattle.shape_model.specs.Declarations.{severity_of}
use Rattle.shape_model.specs.Validation.{IsResult}
use Rattle.shape_model.specs.Vocabulary.{sh}
use Rattle.store_model.specs.declared.event.BlockMode.{BlockMode}
use Rattle.store_model.specs.declared.event.BlockMode.TheVariants.{All, Violation}

-- whether results of this severity block (SHACL 2.1.4)
abbrev pub severity_blocks : BlockMode → Term → Bool
severity_blocks All severity = true
severity_blocks Violation severity = not (same_term severity (sh (codes "Warning")) || same_term severity (sh (codes "Info")))

-- whether a result under the shapes graph s blocks: by the severity of its source shape
abbrev pub row_blocks : BlockMode → List Triple → ResultRow → Bool
row_blocks mode s row = severity_blocks mode (severity_of s row.source_shape)

-- whether one of the results blocks
abbrev pub has_blocking : BlockMode → List Triple → List ResultRow → Bool
has_blocking mode s rows = list_any (λ row. row_blocks mode s row) rows

-- no result of validating the data graph blocks
abbrev pub NoBlocking : BlockMode → List Triple → List Triple → Type 0
NoBlocking mode g s = (row : ResultRow) → IsResult g s row → row_blocks mode s row ≡ false
