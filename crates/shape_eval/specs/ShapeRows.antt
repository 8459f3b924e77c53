-- The results of a compiled shape at a focus node (SHACL 3.4): those of each of its constraints, of its pattern and of its
-- property shapes.
use Rattle.std.specs.Prelude.{◌≡◌, ◌⊎◌, ℕ, List, Some, IsTrue, slice_get}
use Rattle.std.specs.List.{Contains}
use Rattle.rdf_model.specs.declared.term.Term.{Term}
use Rattle.shape_model.specs.declared.component.Component.TheVariants as components
use Rattle.shape_model.specs.declared.result_row.ResultRow.{ResultRow}
use Rattle.shape_model.specs.Components.{RowsOf, Surroundings, row_of}
use Rattle.component_rows.specs.Listed.{untold, with_list}
use Rattle.shape_ast.specs.declared.constraint.Constraint.{Constraint}
use Rattle.shape_ast.specs.declared.constraint.Constraint.TheVariants.{ByTerm, ByList, ByShape, ByShapes}
use Rattle.shape_ast.specs.Components.{term_component, list_component, shape_component, shapes_component}
use Rattle.shape_ast.specs.Readings.{ReadShape}
use Rattle.shape_ast.specs.Standing.{AreAt, shape_reading}

-- those of a constraint of the shape c
abbrev pub ConstraintRow : Surroundings → List ReadShape → ReadShape → Term → Constraint Term → ResultRow → Type 0
ConstraintRow t shapes c f (ByTerm component q) r = RowsOf (term_component component) t (shape_reading shapes c) q (row_of (term_component component) c.node f q) r
ConstraintRow t shapes c f (ByList component q members) r = RowsOf (list_component component) t (with_list members) q (row_of (list_component component) c.node f q) r
ConstraintRow t shapes c f (ByShape component q shape) r = RowsOf (shape_component component) t untold q (row_of (shape_component component) c.node f q) r
ConstraintRow t shapes c f (ByShapes component q places) r =
    (members : List Term) × AreAt shapes places members × RowsOf (shapes_component component) t (with_list members) q (row_of (shapes_component component) c.node f q) r

-- those of its pattern (SHACL 4.4.3)
abbrev pub PatternRow : Surroundings → List ReadShape → ReadShape → Term → ResultRow → Type 0
PatternRow t shapes c f r = (q : Term) × (c.pattern ≡ Some q) × RowsOf components.Pattern t (shape_reading shapes c) q (row_of components.Pattern c.node f q) r

-- the results that some item of the list gives
abbrev pub FromSome : {X : Type 0} → List X → (X → ResultRow → Type 0) → ResultRow → Type 0
FromSome xs Gives r = (x : _) × Contains xs x × Gives x r

-- those of its constraints and of its pattern
abbrev pub OwnRow : Surroundings → List ReadShape → ReadShape → Term → ResultRow → Type 0
OwnRow t shapes c f r = FromSome c.constraints (ConstraintRow t shapes c f) r ⊎ PatternRow t shapes c f r

-- those of the shape at the place at each value node (SHACL 4.7.2)
abbrev pub PropertyAt : Surroundings → List ReadShape → ℕ → ResultRow → Type 0
PropertyAt t shapes n r = (m : ReadShape) × (slice_get shapes n ≡ Some m) × ((v : Term) × t.value_node v × t.row m.node v r)

-- all of them; none where the shape is deactivated (SHACL 2.1.6)
abbrev pub ShapeRow : Surroundings → List ReadShape → ReadShape → Term → ResultRow → Type 0
ShapeRow t shapes c f r = (IsTrue c.is_deactivated → ⊥) × (OwnRow t shapes c f r ⊎ FromSome c.properties (PropertyAt t shapes) r)
