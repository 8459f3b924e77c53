-- When compiled shapes stand for a shapes graph: for a validation they say of each shape what its triples say.
use Rattle.std.specs.Prelude.{◌≡◌, ◌⊎◌, ◌↔◌, ℕ, List, [], ◌∷◌, length, Option, Some, None, MatchOption, IsTrue, codes, slice_get}
use Rattle.std.specs.Option.{unwrap_or}
use Rattle.std.specs.List.{All, Contains}
use Rattle.std.specs.Arc.{arc_value}
use Rattle.std.specs.declared.cmp.Ordering.{Ordering}
use Rattle.collections.specs.Ordered.{IsAscending}
use Rattle.literal_order.specs.Texts.{string_value}
use Rattle.rdf_model.specs.declared.term.Term.{Term}
use Rattle.rdf_model.specs.declared.triple.Triple.{Triple}
use Rattle.rdf_model.specs.Terms.{term_cmp}
use Rattle.shape_model.specs.Components.{parameter_of}
use Rattle.shape_model.specs.Declarations.{messages_of, severity_of}
use Rattle.shape_model.specs.Paths.{Path, Predicate}
use Rattle.shape_model.specs.Patterns.{IsPatternOf}
use Rattle.shape_model.specs.Readings.{IsAsked, IsDeactivated, Reading, reading}
use Rattle.shape_model.specs.ShapeSyntax.{IsShape, TakesMembers}
use Rattle.shape_model.specs.Vocabulary.{sh, true_literal, ShapeProperty, ShPattern, ShFlags, ShProperty, ShQualifiedValueShape, ShDeactivated, ShTargetNode, ShTargetClass, ShTargetSubjectsOf, ShTargetObjectsOf}
use Rattle.shape_ast.specs.declared.constraint.Constraint.{Constraint}
use Rattle.shape_ast.specs.declared.constraint.Constraint.TheVariants.{ByTerm, ByList, ByShape, ByShapes}
use Rattle.shape_ast.specs.declared.shape.Shape.{Shape}
use Rattle.shape_ast.specs.declared.target.Target.TheVariants.{Node, Class, ImplicitClass, SubjectsOf, ObjectsOf}
use Rattle.shape_ast.specs.Readings.{HoldsOfShape, ReadShape, component_of, parameter, read_optional, read_shapes}

-- the shape at the place has the node
abbrev pub IsAt : List ReadShape → ℕ → Term → Type 0
IsAt shapes n t = (m : ReadShape) × (slice_get shapes n ≡ Some m) × (m.node ≡ t)

-- so has the shape at one of the places
abbrev pub IsAtSome : List ReadShape → List ℕ → Term → Type 0
IsAtSome shapes ns t = (n : ℕ) × Contains ns n × IsAt shapes n t

-- the shapes at the places have the nodes in turn
abbrev pub AreAt : List ReadShape → List ℕ → List Term → Type 0
AreAt shapes [] [] = Unit {0}
AreAt shapes [] (t ∷ ts) = ⊥
AreAt shapes (n ∷ ns) [] = ⊥
AreAt shapes (n ∷ ns) (t ∷ ts) = IsAt shapes n t × AreAt shapes ns ts

-- the constraint is that of this value of the property
abbrev pub IsFor : ShapeProperty → Term → Constraint Term → Type 0
IsFor p v k = (parameter_of (component_of k) ≡ p) × (parameter k ≡ v)

-- the constraint keeps the list of these members
abbrev pub HasMembers : List ReadShape → Constraint Term → List Term → Type 0
HasMembers shapes (ByTerm component q) members = ⊥
HasMembers shapes (ByList component q kept) members = kept ≡ members
HasMembers shapes (ByShape component q shape) members = ⊥
HasMembers shapes (ByShapes component q places) members = AreAt shapes places members

-- the constraint names the shape that its parameter is
abbrev pub IsLinked : List ReadShape → Constraint Term → Type 0
IsLinked shapes (ByTerm component q) = Unit {0}
IsLinked shapes (ByList component q members) = Unit {0}
IsLinked shapes (ByShape component q shape) = IsAt shapes shape q
IsLinked shapes (ByShapes component q places) = Unit {0}

-- The shape has this value of the property. What a validation doesn't ask for as such is no parameter of a component, and
-- so no shape has it.
abbrev pub ShapeHas : List ReadShape → ReadShape → ShapeProperty → Term → Type 0
ShapeHas shapes s ShTargetNode v = Contains s.targets (Node v)
ShapeHas shapes s ShTargetClass v = Contains s.targets (Class v)
ShapeHas shapes s ShTargetSubjectsOf v = Contains s.targets (SubjectsOf v)
ShapeHas shapes s ShTargetObjectsOf v = Contains s.targets (ObjectsOf v)
ShapeHas shapes s ShPattern v = s.pattern ≡ Some v
ShapeHas shapes s ShFlags v = s.flags ≡ Some v
ShapeHas shapes s ShProperty v = IsAtSome shapes s.properties v
ShapeHas shapes s ShQualifiedValueShape v = (n : ℕ) × (s.qualified ≡ Some n) × IsAt shapes n v
ShapeHas shapes s ShDeactivated v = IsTrue s.is_deactivated × (v ≡ true_literal)
ShapeHas shapes s p v = (k : Constraint Term) × Contains s.constraints k × IsFor p v k

-- it has a value of the property that is the head of a list with these members
abbrev pub ShapeHasList : List ReadShape → ReadShape → ShapeProperty → Term → List Term → Type 0
ShapeHasList shapes s p head members = (k : Constraint Term) × Contains s.constraints k × IsFor p head k × HasMembers shapes k members

-- where the shape is closed, it allows the IRIs that are paths of its property shapes, and those that it ignores
abbrev pub ShapeAllows : List ReadShape → ReadShape → Term → Type 0
ShapeAllows shapes s p =
    ((n : ℕ) × (m : ReadShape) × Contains s.properties n × (slice_get shapes n ≡ Some m) × (m.path ≡ Some (Predicate p)))
    ⊎ Contains s.ignored p

-- what a compiled shape says
abbrev pub shape_reading : List ReadShape → ReadShape → Reading
shape_reading shapes s = record {
  path = λ p. s.path ≡ Some p;
  is_node_shape = s.path ≡ None;
  has = ShapeHas shapes s;
  has_list = ShapeHasList shapes s;
  sibling = IsAtSome shapes s.siblings;
  allowed = ShapeAllows shapes s;
  is_class = Contains s.targets ImplicitClass;
}

-- the path is a single predicate
abbrev pub IsPredicate : Path → Type 0
IsPredicate path = (p : Term) × (path ≡ Predicate p)

-- Two readings of a shape that a validation can't tell apart. They are the same, but for the path of a deactivated shape
-- (SHACL 2.1.6): it has no value nodes that are asked for, so they agree only in whether it is a predicate, and in which. That
-- is what a closed shape asks of its property shapes (SHACL 4.8.1), deactivated ones among them.
pub record SameShape (y z : Reading) : Type 0 where
  pub path : (p : Path) → (IsDeactivated y → IsPredicate p) → y.path p ↔ z.path p
  pub is_node_shape : (IsDeactivated y → ⊥) → y.is_node_shape ↔ z.is_node_shape
  pub has : (p : ShapeProperty) (v : Term) → IsAsked p v → y.has p v ↔ z.has p v
  pub has_list : (p : ShapeProperty) → TakesMembers p → (head : Term) (members : List Term) → y.has_list p head members ↔ z.has_list p head members
  pub sibling : (t : Term) → y.sibling t ↔ z.sibling t
  pub allowed : (p : Term) → y.allowed p ↔ z.allowed p
  pub is_class : y.is_class ↔ z.is_class

-- the order of shapes is that of their nodes
abbrev pub shape_cmp : ReadShape → ReadShape → Ordering
shape_cmp a b = term_cmp a.node b.node

pub record StandFor (shapes : List ReadShape) (s : List Triple) : Type 0 where
  -- each says what the graph says of its node, which is a shape
  pub each : (c : ReadShape) → Contains shapes c → SameShape (reading s c.node) (shape_reading shapes c)
  pub are_shapes : (c : ReadShape) → Contains shapes c → IsShape s c.node
  -- each shape is compiled, once
  pub all : (n : Term) → IsShape s n → (c : ReadShape) × Contains shapes c × (c.node ≡ n)
  pub ascending : IsAscending shape_cmp shapes
  -- a constraint that names one shape names that of its parameter
  pub linked : (c : ReadShape) → Contains shapes c → All (IsLinked shapes) c.constraints
  -- for the report of its results
  pub severity : (c : ReadShape) → Contains shapes c → unwrap_or c.severity (sh (codes "Violation")) ≡ severity_of s c.node
  pub messages : (c : ReadShape) → Contains shapes c → c.messages ≡ messages_of s c.node

-- the text of a shape's flags; without sh:flags there are none
abbrev pub HasFlagsText : Option Term → List ℕ → Type 0
HasFlagsText None text = text ≡ []
HasFlagsText (Some q) text = string_value q ≡ Some text

-- the shape's pattern, if it has one, was built of the text of its parameter under the shape's flags
abbrev pub IsBuilt : {T : Type 0} → (T → Term) → Shape T → Type 0
IsBuilt read s = MatchOption s.pattern (Unit {0}) (λ p. (text : List ℕ) × HasFlagsText (read_optional read s.flags) text × IsPatternOf (read p.parameter) text (arc_value p.regex))

abbrev pub AreBuilt : {T : Type 0} → (T → Term) → List (Shape T) → Type 0
AreBuilt read shapes = All (IsBuilt read) shapes

-- the term stands in the graph
abbrev pub StandsIn : List Triple → Term → Type 0
StandsIn s x = (t : Triple) × Contains s t × ((t.subject ≡ x) ⊎ (t.predicate ≡ x) ⊎ (t.object ≡ x))

-- The shapes were compiled of the shapes graph: they stand for it, with their patterns built, and each of their terms stands
-- in it.
pub record AreCompiled (shapes : List (Shape Term)) (s : List Triple) : Type 0 where
  pub stand : StandFor (read_shapes shapes) s
  pub built : AreBuilt (λ t. t) shapes
  pub within : All (HoldsOfShape (StandsIn s) (length shapes)) shapes
