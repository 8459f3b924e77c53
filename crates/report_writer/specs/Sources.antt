-- Which results a report can name the shapes of.
use Rattle.std.specs.Prelude.{◌≡◌, List, IsTrue}
use Rattle.std.specs.List.{All, Contains}
use Rattle.shape_model.specs.declared.result_row.ResultRow.{ResultRow}
use Rattle.shape_ast.specs.Readings.{ReadShape}

-- the source shape of each result is one of the shapes, and isn't deactivated
abbrev pub HaveSources : List ReadShape → List ResultRow → Type 0
HaveSources shapes rows = All (λ r. (c : ReadShape) × Contains shapes c × (c.node ≡ r.source_shape) × (IsTrue c.is_deactivated → ⊥)) rows
