-- Compiled shapes as they are read: each part that stands for a term read as that term, and each path as the path of
-- SHACL that it is.
use Rattle.std.specs.Prelude.{◌<◌, ℕ, Bool, List, length, map, Option, Some, None, MatchOption}
use Rattle.std.specs.List.{All}
use Rattle.rdf_model.specs.declared.term.Term.{Term}
use Rattle.rdf_model.specs.Numbers.{term_at}
use Rattle.shape_model.specs.declared.component.Component.{Component}
use Rattle.shape_model.specs.Paths.{Path as DefinedPath}
use Rattle.path_ast.specs.declared.path.Path.{Path}
use Rattle.path_ast.specs.PathReadings.{HasEach, IsNamed, read_path}
use Rattle.shape_ast.specs.declared.constraint.Constraint.{Constraint}
use Rattle.shape_ast.specs.declared.constraint.Constraint.TheVariants.{ByTerm, ByList, ByShape, ByShapes}
use Rattle.shape_ast.specs.declared.pattern.CompiledPattern.{CompiledPattern}
use Rattle.shape_ast.specs.declared.shape.Shape.{Shape}
use Rattle.shape_ast.specs.declared.target.Target.{Target}
use Rattle.shape_ast.specs.declared.target.Target.TheVariants.{Node, Class, ImplicitClass, SubjectsOf, ObjectsOf}
use Rattle.shape_ast.specs.Components.{term_component, list_component, shape_component, shapes_component}

-- A compiled shape as it is read. Where two are equal, the shapes say the same, wherever their paths and patterns lie in
-- memory.
pub record ReadShape : Type 0 where
  pub node : Term
  pub path : Option DefinedPath
  pub is_deactivated : Bool
  pub severity : Option Term
  pub messages : List Term
  pub targets : List (Target Term)
  pub constraints : List (Constraint Term)
  -- the value of sh:pattern
  pub pattern : Option Term
  pub flags : Option Term
  pub properties : List ℕ
  pub qualified : Option ℕ
  pub siblings : List ℕ
  pub ignored : List Term

abbrev pub read_target : {T : Type 0} → (T → Term) → Target T → Target Term
read_target read (Node t) = Node (read t)
read_target read (Class t) = Class (read t)
read_target read ImplicitClass = ImplicitClass
read_target read (SubjectsOf t) = SubjectsOf (read t)
read_target read (ObjectsOf t) = ObjectsOf (read t)

abbrev pub read_constraint : {T : Type 0} → (T → Term) → Constraint T → Constraint Term
read_constraint read (ByTerm component q) = ByTerm component (read q)
read_constraint read (ByList component q members) = ByList component (read q) (map read members)
read_constraint read (ByShape component q shape) = ByShape component (read q) shape
read_constraint read (ByShapes component q shapes) = ByShapes component (read q) shapes

abbrev pub read_optional : {T : Type 0} → (T → Term) → Option T → Option Term
read_optional read None = None
read_optional read (Some t) = Some (read t)

abbrev pub read_optional_path : {T : Type 0} → (T → Term) → Option (Path T) → Option DefinedPath
read_optional_path read None = None
read_optional_path read (Some path) = Some (read_path read path)

abbrev pub read_pattern : {T : Type 0} → (T → Term) → Option (CompiledPattern T) → Option Term
read_pattern read None = None
read_pattern read (Some pattern) = Some (read pattern.parameter)

abbrev pub read_shape : {T : Type 0} → (T → Term) → Shape T → ReadShape
read_shape read s = record {
  node = read s.node;
  path = read_optional_path read s.path;
  is_deactivated = s.is_deactivated;
  severity = read_optional read s.severity;
  messages = map read s.messages;
  targets = map (read_target read) s.targets;
  constraints = map (read_constraint read) s.constraints;
  pattern = read_pattern read s.pattern;
  flags = read_optional read s.flags;
  properties = s.properties;
  qualified = s.qualified;
  siblings = s.siblings;
  ignored = map read s.ignored;
}

-- shapes of terms, and of numbers among some terms
abbrev pub read_shapes : List (Shape Term) → List ReadShape
read_shapes shapes = map (read_shape (λ t. t)) shapes

abbrev pub named_shapes : List Term → List (Shape ℕ) → List ReadShape
named_shapes terms shapes = map (read_shape (term_at terms)) shapes

-- the component of a constraint, and the value of its parameter
abbrev pub component_of : {T : Type 0} → Constraint T → Component
component_of (ByTerm component q) = term_component component
component_of (ByList component q members) = list_component component
component_of (ByShape component q shape) = shape_component component
component_of (ByShapes component q shapes) = shapes_component component

abbrev pub parameter : {T : Type 0} → Constraint T → T
parameter (ByTerm component q) = q
parameter (ByList component q members) = q
parameter (ByShape component q shape) = q
parameter (ByShapes component q shapes) = q

-- something holds of each term, or number, of a part, and each shape that it names is one of so many
abbrev pub HoldsOfTarget : {T : Type 0} → (T → Type 0) → Target T → Type 0
HoldsOfTarget Q (Node t) = Q t
HoldsOfTarget Q (Class t) = Q t
HoldsOfTarget Q ImplicitClass = Unit {0}
HoldsOfTarget Q (SubjectsOf t) = Q t
HoldsOfTarget Q (ObjectsOf t) = Q t

abbrev pub HoldsOfConstraint : {T : Type 0} → (T → Type 0) → ℕ → Constraint T → Type 0
HoldsOfConstraint Q count (ByTerm component q) = Q q
HoldsOfConstraint Q count (ByList component q members) = Q q × All Q members
HoldsOfConstraint Q count (ByShape component q shape) = Q q × (shape < count)
HoldsOfConstraint Q count (ByShapes component q shapes) = Q q × All (λ n. n < count) shapes

pub record HoldsOfShape {T : Type 0} (Q : T → Type 0) (count : ℕ) (s : Shape T) : Type 0 where
  pub node : Q s.node
  pub path : MatchOption s.path (Unit {0}) (HasEach Q)
  pub severity : MatchOption s.severity (Unit {0}) Q
  pub messages : All Q s.messages
  pub targets : All (HoldsOfTarget Q) s.targets
  pub constraints : All (HoldsOfConstraint Q count) s.constraints
  pub pattern : MatchOption s.pattern (Unit {0}) (λ p. Q p.parameter)
  pub flags : MatchOption s.flags (Unit {0}) Q
  pub properties : All (λ n. n < count) s.properties
  pub qualified : MatchOption s.qualified (Unit {0}) (λ n. n < count)
  pub siblings : All (λ n. n < count) s.siblings
  pub ignored : All Q s.ignored

-- each term is one of the terms; each number has a term
abbrev pub AreNamed : List Term → List (Shape Term) → Type 0
AreNamed terms shapes = All (HoldsOfShape (IsNamed terms) (length shapes)) shapes

abbrev pub AreBound : List Term → List (Shape ℕ) → Type 0
AreBound terms shapes = All (HoldsOfShape (λ n. n < length terms) (length shapes)) shapes
