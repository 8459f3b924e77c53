-- That the rows of compiled shapes are those of the shapes graph.
use Rattle.std.specs.Prelude.{◌≡◌, ◌↔◌, ℕ, List, Some, slice_get}
use Rattle.std.specs.List.{Contains}
use Rattle.rdf_model.specs.declared.term.Term.{Term}
use Rattle.rdf_model.specs.declared.triple.Triple.{Triple}
use Rattle.shape_model.specs.Looks.{LookRow}
use Rattle.shape_model.specs.Readings.{IsAcyclic, IsShallow}
use Rattle.shape_model.specs.ShapeLooks.{Looks}
use Rattle.shape_ast.specs.declared.shape.Shape.{Shape}
use Rattle.shape_ast.specs.Readings.{ReadShape, read_shapes}
use Rattle.shape_ast.specs.Standing.{AreCompiled}
use Rattle.shape_model.specs.Limits.{levels_limit}

-- Just the rows of the shape at the place are listed, for each shapes graph of which the shapes were compiled, in which no
-- shape refers to itself and no chain of references is longer than 256.
abbrev pub ListLooks : List (Shape Term) → ℕ → List LookRow → Type 0
ListLooks shapes place rows = (s : List Triple) → AreCompiled shapes s → IsAcyclic s → IsShallow levels_limit s
    → (c : ReadShape) → slice_get (read_shapes shapes) place ≡ Some c → (row : LookRow) → Contains rows row ↔ Looks s c.node row
