-- The parts of a compiled shape, as the triples of its node say them.
use Rattle.std.specs.Prelude.{◌≡◌, ◌⊎◌, ◌↔◌, ℕ, IsTrue, List, [], ◌∷◌, ◌++◌, Option, Some, None, MatchOption, length, map, slice_get}
use Rattle.std.specs.List.{All, Contains}
use Rattle.std.specs.Ordering.{nat_cmp}
use Rattle.collections.specs.Listings.{IsListing}
use Rattle.collections.specs.Ordered.{IsAscending}
use Rattle.literal_order.specs.Texts.{string_value}
use Rattle.rdf_model.specs.declared.term.Term.{Term}
use Rattle.rdf_model.specs.declared.triple.Triple.{Triple}
use Rattle.rdf_model.specs.Terms.{term_cmp, triple_cmp}
use Rattle.shape_model.specs.Instances.{Instance}
use Rattle.shape_model.specs.Paths.{Path, Predicate}
use Rattle.shape_model.specs.Readings.{Sibling}
use Rattle.shape_model.specs.ShapeSyntax.{ListOf, PathOf}
use Rattle.shape_model.specs.Vocabulary.{rdfs_class, true_literal}
use Rattle.shape_properties.specs.declared.property.ShapeProperty.{ShapeProperty}
use Rattle.shape_properties.specs.declared.property.ShapeProperty.TheVariants as vocabulary
use Rattle.shape_properties.specs.Syntax.{HasProperty, IsListed, SomeValue}
use Rattle.shape_ast.specs.declared.constraint.Constraint.{Constraint}
use Rattle.shape_ast.specs.declared.constraint.Constraint.TheVariants.{ByTerm, ByList, ByShape, ByShapes}
use Rattle.shape_ast.specs.declared.pattern.CompiledPattern.{CompiledPattern}
use Rattle.shape_ast.specs.declared.target.Target.{Target}
use Rattle.shape_ast.specs.declared.target.Target.TheVariants.{Node, Class, ImplicitClass, SubjectsOf, ObjectsOf}
use Rattle.shape_ast.specs.declared.shape.Shape.{Shape}
use Rattle.shape_ast.specs.Readings.{HoldsOfShape, ReadShape, read_shape, read_shapes}
use Rattle.shape_ast.specs.Standing.{AreBuilt, AreCompiled, IsBuilt, StandsIn}
use Rattle.shape_reader.specs.declared.fault.CompileFault.{CompileFault}
use Rattle.shape_reader.specs.declared.fault.CompileFault.TheVariants as faults
use Rattle.outside.specs.declared.maker.MakeFault.{MakeFault}
use Rattle.outside.specs.declared.maker.MakeFault.TheVariants as make
use Rattle.outside.specs.Faults.{Refusal}
use Rattle.std.specs.Arc.{arc_value}
use Rattle.shape_model.specs.Patterns.{IsPatternOf}
use Rattle.shape_ast.specs.Once.{AreDistinct, AreOnce, IsOnce, constraint_triple}
use Rattle.shape_reader.specs.declared.kind.Kind.{Kind}
use Rattle.shape_reader.specs.declared.kind.Kind.TheVariants as kinds
use Rattle.shape_reader.specs.Kinds.{kind}

-- the term stands at this place of the nodes
abbrev pub IsPlace : List Term → ℕ → Term → Type 0
IsPlace nodes n t = slice_get nodes n ≡ Some t

-- the terms stand at these places, in turn
abbrev pub ArePlaces : List Term → List ℕ → List Term → Type 0
ArePlaces nodes [] [] = Unit {0}
ArePlaces nodes [] (t ∷ ts) = ⊥
ArePlaces nodes (n ∷ ns) [] = ⊥
ArePlaces nodes (n ∷ ns) (t ∷ ts) = IsPlace nodes n t × ArePlaces nodes ns ts

-- the members of the list at the head stand at these places
abbrev pub AreShapesOf : List Triple → List Term → Term → List ℕ → Type 0
AreShapesOf s nodes head places = (members : List Term) × ListOf s head members × ArePlaces nodes places members

-- the constraint of this kind by the value v of its parameter
abbrev pub IsConstraint : List Triple → List Term → Kind → Term → Constraint Term → Type 0
IsConstraint s nodes (kinds.Term component) v k = k ≡ ByTerm component v
IsConstraint s nodes (kinds.List component) v k = (members : List Term) × ListOf s v members × (k ≡ ByList component v members)
IsConstraint s nodes (kinds.Shape component) v k = (n : ℕ) × IsPlace nodes n v × (k ≡ ByShape component v n)
IsConstraint s nodes (kinds.Shapes component) v k = (places : List ℕ) × AreShapesOf s nodes v places × (k ≡ ByShapes component v places)
IsConstraint s nodes kinds.Nothing v k = ⊥

-- the value v of the property says the constraint
abbrev pub SaysConstraint : List Triple → List Term → ShapeProperty → Term → Constraint Term → Type 0
SaysConstraint s nodes p v k = IsConstraint s nodes (kind p) v k

-- the target that the value declares (SHACL 2.1.3)
abbrev pub target_of : ShapeProperty → Term → Option (Target Term)
target_of vocabulary.TargetNode v = Some (Node v)
target_of vocabulary.TargetClass v = Some (Class v)
target_of vocabulary.TargetSubjectsOf v = Some (SubjectsOf v)
target_of vocabulary.TargetObjectsOf v = Some (ObjectsOf v)
target_of p v = None

abbrev pub SaysTarget : List Triple → List Term → ShapeProperty → Term → Target Term → Type 0
SaysTarget s nodes p v x = target_of p v ≡ Some x

-- a target of the node: a declared one, or that of a class that is a shape (SHACL 2.1.3.3)
abbrev pub IsTarget : List Triple → List Term → Term → Target Term → Type 0
IsTarget s nodes n x = SomeValue s n (λ p v. SaysTarget s nodes p v x) ⊎ ((ImplicitClass ≡ x) × Instance s n rdfs_class)

-- a value of the property, if there is one
abbrev pub IsValue : List Triple → Term → ShapeProperty → Option Term → Type 0
IsValue s n p found = MatchOption found ((v : Term) → HasProperty s n p v → ⊥) (HasProperty s n p)

-- the values of the property are one
abbrev pub HasOne : List Triple → Term → ShapeProperty → Type 0
HasOne s n p = (v w : Term) → HasProperty s n p v → HasProperty s n p w → v ≡ w

-- a value of the property stands at this place
abbrev pub HasPlace : List Triple → List Term → Term → ShapeProperty → ℕ → Type 0
HasPlace s nodes n p k = (v : Term) × HasProperty s n p v × IsPlace nodes k v

-- a sibling of the node does (SHACL 4.7.3)
abbrev pub HasSibling : List Triple → List Term → Term → ℕ → Type 0
HasSibling s nodes n k = (v : Term) × Sibling s n v × IsPlace nodes k v

-- a term that the node ignores where it is closed (SHACL 4.8.1)
abbrev pub IsIgnored : List Triple → Term → Term → Type 0
IsIgnored s n t = (head : Term) × HasProperty s n vocabulary.IgnoredProperties head × IsListed s head t

-- its path (SHACL 2.3.1)
abbrev pub IsPathAt : List Triple → Term → Path → Type 0
IsPathAt s n p = (v : Term) × HasProperty s n vocabulary.Path v × PathOf s v p

abbrev pub IsOptionalPath : List Triple → Term → Option Path → Type 0
IsOptionalPath s n found = MatchOption found ((v : Term) → HasProperty s n vocabulary.Path v → ⊥) (IsPathAt s n)

-- its path where that is a predicate
abbrev pub IsOptionalPredicate : List Triple → Term → Option Path → Type 0
IsOptionalPredicate s n found = MatchOption found ((p : Term) → IsPathAt s n (Predicate p) → ⊥) (λ path. (p : Term) × (path ≡ Predicate p) × IsPathAt s n path)

-- sh:deactivated is true at it (SHACL 2.1.6)
abbrev pub IsOff : List Triple → Term → Type 0
IsOff s n = HasProperty s n vocabulary.Deactivated true_literal

-- What is kept of its path. A deactivated shape has no value nodes that are asked for, and a closed shape allows of its property
-- shapes' paths only those that are predicates (SHACL 4.8.1): so only such a path of it is kept.
pub record IsKeptPath (s : List Triple) (n : Term) (found : Option Path) : Type 0 where
  pub active : (IsOff s n → ⊥) → IsOptionalPath s n found
  pub deactivated : IsOff s n → IsOptionalPredicate s n found

-- the shape's parts are what the triples say of its node, where shapes are named by their places among the nodes
pub record IsCompiled (s : List Triple) (nodes : List Term) (c : ReadShape) : Type 0 where
  pub path : IsKeptPath s c.node c.path
  pub is_deactivated : IsTrue c.is_deactivated ↔ IsOff s c.node
  pub severity : IsValue s c.node vocabulary.Severity c.severity
  pub messages : IsListing term_cmp (HasProperty s c.node vocabulary.Message) c.messages
  pub targets : (x : Target Term) → Contains c.targets x ↔ IsTarget s nodes c.node x
  pub constraints : (x : Constraint Term) → Contains c.constraints x ↔ SomeValue s c.node (λ p v. SaysConstraint s nodes p v x)
  pub pattern : IsValue s c.node vocabulary.Pattern c.pattern
  pub flags : IsValue s c.node vocabulary.Flags c.flags
  pub properties : (k : ℕ) → Contains c.properties k ↔ HasPlace s nodes c.node vocabulary.Property k
  pub qualified : (k : ℕ) → (c.qualified ≡ Some k) ↔ HasPlace s nodes c.node vocabulary.QualifiedValueShape k
  pub siblings : (k : ℕ) → Contains c.siblings k ↔ HasSibling s nodes c.node k
  pub ignored : (t : Term) → Contains c.ignored t ↔ IsIgnored s c.node t

-- the text of its flags, and none where it has no flags (SHACL 4.4.3)
abbrev pub IsFlagsText : List Triple → Term → List ℕ → Type 0
IsFlagsText s n text =
    ((q : Term) × HasProperty s n vocabulary.Flags q × (string_value q ≡ Some text))
    ⊎ (((q : Term) → HasProperty s n vocabulary.Flags q → ⊥) × (text ≡ []))

-- each value of the property has a text
abbrev pub HasTexts : List Triple → Term → ShapeProperty → Type 0
HasTexts s n p = (v : Term) → HasProperty s n p v → string_value v ≡ None → ⊥

-- its pattern, built under its flags
abbrev pub IsPatternAt : List Triple → Term → CompiledPattern Term → Type 0
IsPatternAt s n p =
    HasProperty s n vocabulary.Pattern p.parameter
    × ((text : List ℕ) × IsFlagsText s n text × IsPatternOf p.parameter text (arc_value p.regex))

abbrev pub IsOptionalPattern : List Triple → Term → Option (CompiledPattern Term) → Type 0
IsOptionalPattern s n found = MatchOption found ((v : Term) → HasProperty s n vocabulary.Pattern v → ⊥) (IsPatternAt s n)

-- its pattern joined those that were refused, with its flags
abbrev pub IsRefused : List Triple → Term → List Refusal → List Refusal → Type 0
IsRefused s n old new =
    (v : Term) × (pattern : List ℕ) × (flags : List ℕ) × HasProperty s n vocabulary.Pattern v × (string_value v ≡ Some pattern)
    × IsFlagsText s n flags × (new ≡ old ++ (pattern, flags) ∷ [])

-- why no pattern was made: it was refused, or memory ran out
abbrev pub IsMakeFault : List Triple → Term → MakeFault → List Refusal → List Refusal → Type 0
IsMakeFault s n make.Refused old new = IsRefused s n old new
IsMakeFault s n make.Memory old new = new ≡ old

-- the targets of the node, each once
pub record AreTargetsOf (s : List Triple) (nodes : List Term) (n : Term) (targets : List (Target Term)) : Type 0 where
  pub said : (x : Target Term) → Contains targets x ↔ IsTarget s nodes n x
  pub once : AreDistinct targets

-- its constraints, in the order of the triples that say them
pub record AreConstraints (s : List Triple) (nodes : List Term) (n : Term) (constraints : List (Constraint Term)) : Type 0 where
  pub said : (x : Constraint Term) → Contains constraints x ↔ SomeValue s n (λ p v. SaysConstraint s nodes p v x)
  pub once : IsAscending triple_cmp (map (constraint_triple n) constraints)

-- the places of its property shapes, in order
abbrev pub AreProperties : List Triple → List Term → Term → List ℕ → Type 0
AreProperties s nodes n places = IsListing nat_cmp (HasPlace s nodes n vocabulary.Property) places

-- the parts of the node but for its path and its pattern, with the node
pub record ArePartsOf (s : List Triple) (nodes : List Term) (n own : Term) (targets : List (Target Term)) (constraints : List (Constraint Term)) (properties siblings : List ℕ) (severity flags : Option Term) (messages ignored : List Term) : Type 0 where
  pub node : own ≡ n
  pub targets_said : AreTargetsOf s nodes n targets
  pub constraints_said : AreConstraints s nodes n constraints
  pub properties_said : AreProperties s nodes n properties
  pub siblings_said : (k : ℕ) → Contains siblings k ↔ HasSibling s nodes n k
  pub severity_said : IsValue s n vocabulary.Severity severity
  pub flags_said : IsValue s n vocabulary.Flags flags
  pub messages_said : IsListing term_cmp (HasProperty s n vocabulary.Message) messages
  pub ignored_said : (t : Term) → Contains ignored t ↔ IsIgnored s n t

-- the compiled shape of the node
pub record IsShapeOf (s : List Triple) (nodes : List Term) (n : Term) (shape : Shape Term) : Type 0 where
  pub node : shape.node ≡ n
  pub compiled : IsCompiled s nodes (read_shape (λ t. t) shape)
  pub once : IsOnce (read_shape (λ t. t) shape)
  pub built : IsBuilt (λ t. t) shape
  pub named : HoldsOfShape (StandsIn s) (length nodes) shape

-- the first of the nodes have these compiled shapes, in turn
pub record AreShapes (s : List Triple) (nodes : List Term) (first : List Term) (shapes : List (Shape Term)) : Type 0 where
  pub at : map (λ (c : ReadShape). c.node) (read_shapes shapes) ≡ first
  pub compiled : (c : ReadShape) → Contains (read_shapes shapes) c → IsCompiled s nodes c
  pub once : (c : ReadShape) → Contains (read_shapes shapes) c → IsOnce c
  pub built : AreBuilt (λ t. t) shapes
  pub named : All (HoldsOfShape (StandsIn s) (length nodes)) shapes

-- these are the compiled shapes of the graph, with each of their parts once
pub record AreRead (s : List Triple) (shapes : List (Shape Term)) : Type 0 where
  pub compiled : AreCompiled shapes s
  pub once : AreOnce shapes

-- the fault of its pattern
abbrev pub IsPatternFault : Term → MakeFault → CompileFault → Type 0
IsPatternFault n make.Refused fault = fault ≡ faults.Pattern n
IsPatternFault n make.Memory fault = fault ≡ faults.Memory
