-- The rows of looks of compiled shapes as lists, each as often as it is counted.
use Rattle.std.specs.Prelude.{ℕ, zero, suc, Bool, true, false, List, [], ◌∷◌, ◌++◌, Option, Some, None, if◌then◌else◌, slice_get}
use Rattle.std.specs.List.{flat_map, list_any}
use Rattle.std.specs.Ordering.{nat_cmp}
use Rattle.collections.specs.Ordered.{with_item}
use Rattle.rdf_model.specs.declared.term.Term.{Term}
use Rattle.rdf_model.specs.Matching.{same_term}
use Rattle.shape_model.specs.Limits.{levels_limit}
use Rattle.shape_model.specs.Instances.{class_path}
use Rattle.shape_model.specs.Looks.{LookRow, ByIn, ByOut, ByOutAny}
use Rattle.shape_model.specs.Paths.{Path}
use Rattle.shape_model.specs.Vocabulary.{true_literal}
use Rattle.shape_ast.specs.declared.component.TermComponent.{TermComponent}
use Rattle.shape_ast.specs.declared.component.TermComponent.TheVariants.{Class, Closed, Disjoint, Equals, LessThan, LessThanOrEquals, QualifiedMaxCount, QualifiedMinCount}
use Rattle.shape_ast.specs.declared.constraint.Constraint.{Constraint}
use Rattle.shape_ast.specs.declared.constraint.Constraint.TheVariants.{ByTerm, ByList, ByShape, ByShapes}
use Rattle.shape_ast.specs.declared.target.Target.{Target}
use Rattle.shape_ast.specs.declared.target.Target.TheVariants as targets
use Rattle.shape_ast.specs.Readings.{ReadShape}
use Rattle.read_plans.specs.PathRows.{path_rows}

-- the way to the value nodes of a shape with such a path, whose focus node is at the end of q
abbrev pub value_way : Option Path → List Path → List Path
value_way None q = q
value_way (Some p) q = q ++ p ∷ []

-- the rows of the path
abbrev pub optional_rows : Option Path → List Path → List LookRow
optional_rows None q = []
optional_rows (Some p) q = path_rows false p q

-- the row of all triples at the end of w, where a value of sh:closed is true (SHACL 4.8.1)
abbrev pub closed_rows : Term → List Path → List LookRow
closed_rows p w = if same_term p true_literal then record { way = w; kind = ByOutAny } ∷ [] else []

-- The rows of a component by itself at the value p of its parameter: the class path at the value nodes, at the end of w;
-- the property that is compared at the focus node, at the end of q; all triples of the value nodes of a closed shape.
abbrev pub term_rows : TermComponent → Term → List Path → List Path → List LookRow
term_rows Class p q w = path_rows false class_path w
term_rows Equals p q w = record { way = q; kind = ByOut p } ∷ []
term_rows Disjoint p q w = record { way = q; kind = ByOut p } ∷ []
term_rows LessThan p q w = record { way = q; kind = ByOut p } ∷ []
term_rows LessThanOrEquals p q w = record { way = q; kind = ByOut p } ∷ []
term_rows Closed p q w = closed_rows p w
term_rows component p q w = []

abbrev pub constraint_rows : List Path → List Path → Constraint Term → List LookRow
constraint_rows q w (ByTerm component p) = term_rows component p q w
constraint_rows q w (ByList component p members) = []
constraint_rows q w (ByShape component p shape) = []
constraint_rows q w (ByShapes component p shapes) = []

-- the places of the shapes that a constraint names
abbrev pub constraint_places : Constraint Term → List ℕ
constraint_places (ByTerm component p) = []
constraint_places (ByList component p members) = []
constraint_places (ByShape component p shape) = shape ∷ []
constraint_places (ByShapes component p shapes) = shapes

-- the constraint is a qualified count
abbrev pub counts_component : TermComponent → Bool
counts_component QualifiedMinCount = true
counts_component QualifiedMaxCount = true
counts_component component = false

abbrev pub is_count : Constraint Term → Bool
is_count (ByTerm component p) = counts_component component
is_count (ByList component p members) = false
is_count (ByShape component p shape) = false
is_count (ByShapes component p shapes) = false

abbrev pub optional_place : Option ℕ → List ℕ
optional_place None = []
optional_place (Some n) = n ∷ []

-- these places and more, each once, in their order
abbrev pub with_places : List ℕ → List ℕ → List ℕ
with_places places [] = places
with_places places (n ∷ ns) = with_places (with_item nat_cmp n places) ns

-- where there is a qualified count, the qualified value shape and each sibling (SHACL 4.7.3)
abbrev pub qualified_places : ReadShape → List ℕ
qualified_places c = if list_any is_count c.constraints then optional_place c.qualified ++ with_places [] c.siblings else []

-- the places of the shapes on whose results those of the shape rest, each as often as it is named
abbrev pub referred_places : ReadShape → List ℕ
referred_places c = c.properties ++ flat_map constraint_places c.constraints ++ qualified_places c

-- The rows of a shape that isn't deactivated, whose focus node is at the end of q, without those of the shapes that it
-- refers to.
abbrev pub own_rows : ReadShape → List Path → List LookRow
own_rows c q = optional_rows c.path q ++ flat_map (constraint_rows q (value_way c.path q)) c.constraints

-- All rows of a shape, without those of its targets; `below` gives those of the shapes that it refers to.
abbrev pub rows_with : (ℕ → List Path → List LookRow) → Option ReadShape → List Path → List LookRow
rows_with below None q = []
rows_with below (Some c) q =
    if c.is_deactivated then [] else own_rows c q ++ flat_map (λ n. below n (value_way c.path q)) (referred_places c)

-- the same of the shape at a place, through chains of fewer references than the levels
abbrev pub shape_rows : List ReadShape → ℕ → ℕ → List Path → List LookRow
shape_rows shapes zero place q = []
shape_rows shapes (suc levels) place q = rows_with (shape_rows shapes levels) (slice_get shapes place) q

-- the rows that decide whether a focus node is a target
abbrev pub target_rows : Target Term → List LookRow
target_rows (targets.Node t) = []
target_rows (targets.Class t) = path_rows false class_path []
target_rows targets.ImplicitClass = path_rows false class_path []
target_rows (targets.SubjectsOf p) = record { way = []; kind = ByOut p } ∷ []
target_rows (targets.ObjectsOf p) = record { way = []; kind = ByIn p } ∷ []

abbrev pub all_target_rows : Option ReadShape → List LookRow
all_target_rows None = []
all_target_rows (Some c) = flat_map target_rows c.targets

-- the rows of the shape at the place, with those of its targets
abbrev pub plan_rows : List ReadShape → ℕ → List LookRow
plan_rows shapes place = shape_rows shapes levels_limit place [] ++ all_target_rows (slice_get shapes place)
