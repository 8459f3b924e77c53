-- What a shapes graph says of a shape.
use Rattle.std.specs.Prelude.{◌≡◌, ◌⊎◌, ◌↔◌, ℕ, List, [], ◌∷◌, ◌++◌, Some, length}
use Rattle.rdf_model.specs.declared.term.Term.{Term}
use Rattle.rdf_model.specs.declared.triple.Triple.{Triple}
use Rattle.literal_order.specs.Texts.{string_value}
use Rattle.shape_model.specs.Vocabulary.{rdfs_class, true_literal, ShapeProperty, ShFlags, ShEquals, ShDisjoint, ShLessThan, ShLessThanOrEquals, ShNot, ShAnd, ShOr, ShXone, ShNode, ShProperty, ShQualifiedValueShape, ShQualifiedMinCount, ShQualifiedMaxCount, ShQualifiedValueShapesDisjoint, ShClosed, ShIgnoredProperties, ShDeactivated, ShPath}
use Rattle.shape_model.specs.Triples.{IsMember}
use Rattle.shape_model.specs.Paths.{Path, Predicate}
use Rattle.shape_model.specs.Walks.{Walk}
use Rattle.shape_model.specs.Instances.{Instance}
use Rattle.shape_model.specs.ShapeSyntax.{HasProperty, ListOf, PathOf, IsShape, TakesMembers}

-- All that a validation asks a shapes graph of one shape, either by its triples or by a form that was made of them.
pub record Reading : Type 1 where
  -- its sh:path stands for this path
  pub path : Path → Type 0
  -- it has no sh:path: it is a node shape
  pub is_node_shape : Type 0
  -- it has this value of the property
  pub has : ShapeProperty → Term → Type 0
  -- it has a value of the property that is the head of a list with these members
  pub has_list : ShapeProperty → Term → List Term → Type 0
  -- this is a sibling shape of it
  pub sibling : Term → Type 0
  -- where it is closed, it allows this predicate
  pub allowed : Term → Type 0
  -- it is an implicit class target
  pub is_class : Type 0

-- the path of a property shape (SHACL 2.3.1)
abbrev pub ShapePath : List Triple → Term → Path → Type 0
ShapePath s shape p = (n : Term) × HasProperty s shape ShPath n × PathOf s n p

-- no sh:path (SHACL 2.2)
abbrev pub IsNodeShape : List Triple → Term → Type 0
IsNodeShape s shape = (n : Term) → HasProperty s shape ShPath n → ⊥

-- The sibling shapes (SHACL 4.7.3) of a property shape whose sh:qualifiedValueShapesDisjoint is true: the values of
-- sh:qualifiedValueShape at the sh:property values of the shapes that have it as a sh:property, but for its own.
abbrev pub Sibling : List Triple → Term → Term → Type 0
Sibling s shape t =
    ((n : Term) × HasProperty s shape ShPath n)
    × HasProperty s shape ShQualifiedValueShapesDisjoint true_literal
    × (HasProperty s shape ShQualifiedValueShape t → ⊥)
    × ((parent : Term) × (other : Term) × HasProperty s parent ShProperty shape × HasProperty s parent ShProperty other × HasProperty s other ShQualifiedValueShape t)

-- the predicates that a closed shape allows (SHACL 4.8.1): the IRIs that are the sh:path of its sh:property values, and
-- the members of its sh:ignoredProperties
abbrev pub IsAllowed : List Triple → Term → Term → Type 0
IsAllowed s shape p =
    ((n : Term) × HasProperty s shape ShProperty n × ShapePath s n (Predicate p))
    ⊎ ((head : Term) × (members : List Term) × HasProperty s shape ShIgnoredProperties head × ListOf s head members × IsMember members p)

-- an implicit class target is a shape that is an instance of rdfs:Class in the shapes graph (SHACL 2.1.3.3)
abbrev pub IsImplicitClass : List Triple → Term → Type 0
IsImplicitClass s shape = IsShape s shape × Instance s shape rdfs_class

-- what the triples of the shapes graph say
abbrev pub reading : List Triple → Term → Reading
reading s shape = record {
  path = ShapePath s shape;
  is_node_shape = IsNodeShape s shape;
  has = HasProperty s shape;
  has_list = λ p head members. HasProperty s shape p head × ListOf s head members;
  sibling = Sibling s shape;
  allowed = IsAllowed s shape;
  is_class = IsImplicitClass s shape;
}

-- The value nodes (SHACL 3.7): the focus node itself at a node shape, and what the path joins it to at a property shape.
abbrev pub ValueNode : List Triple → Reading → Term → Term → Type 0
ValueNode g y f v = (y.is_node_shape × (f ≡ v)) ⊎ ((p : Path) × y.path p × Walk g p f v)

-- sh:deactivated is true (SHACL 2.1.6)
abbrev pub IsDeactivated : Reading → Type 0
IsDeactivated y = y.has ShDeactivated true_literal

-- sh:closed is true (SHACL 4.8.1)
abbrev pub IsClosed : Reading → Type 0
IsClosed y = y.has ShClosed true_literal

-- the properties whose values at the focus node are compared with the value nodes (SHACL 4.5)
abbrev pub IsCompared : Reading → Term → Type 0
IsCompared y p = y.has ShEquals p ⊎ y.has ShDisjoint p ⊎ y.has ShLessThan p ⊎ y.has ShLessThanOrEquals p

-- the flags of the shape's patterns (SHACL 4.4.3): the text of its sh:flags, and none without it
abbrev pub HasFlags : Reading → List ℕ → Type 0
HasFlags y flags =
    ((q : Term) × y.has ShFlags q × (string_value q ≡ Some flags))
    ⊎ (((q : Term) → y.has ShFlags q → ⊥) × (flags ≡ []))

-- a qualified count, without which a qualified value shape is no constraint (SHACL 4.7.3)
abbrev pub HasQualifiedCount : Reading → Type 0
HasQualifiedCount y = (q : Term) × (y.has ShQualifiedMinCount q ⊎ y.has ShQualifiedMaxCount q)

-- a member of a list that is a value of the property
abbrev pub HasMember : Reading → ShapeProperty → Term → Type 0
HasMember y p t = (head : Term) × (members : List Term) × y.has_list p head members × IsMember members t

-- the shapes whose results the results of this one rest on (SHACL 3.4.3, 4.6 and 4.7)
abbrev pub Refers : Reading → Term → Type 0
Refers y t =
    y.has ShNot t
    ⊎ y.has ShNode t
    ⊎ y.has ShProperty t
    ⊎ HasMember y ShAnd t
    ⊎ HasMember y ShOr t
    ⊎ HasMember y ShXone t
    ⊎ (HasQualifiedCount y × y.has ShQualifiedValueShape t)
    ⊎ (HasQualifiedCount y × y.sibling t)

-- from a through the shapes in turn, each refers to the next
abbrev pub References : (Term → Reading) → Term → List Term → Type 0
References readings a [] = Unit {0}
References readings a (m ∷ ms) = Refers (readings a) m × References readings m ms

-- no shape refers to itself, through others or not: no shape is recursive (SHACL 3.4.3)
abbrev pub IsAcyclic : List Triple → Type 0
IsAcyclic s = (a : Term) (ms : List Term) → References (reading s) a (ms ++ a ∷ []) → ⊥

-- The values of properties that a validation asks for as such. It reads the path of a shape in place of its sh:path,
-- the predicates that a shape allows in place of its sh:ignoredProperties, its siblings in place of its
-- sh:qualifiedValueShapesDisjoint; and whether a shape is deactivated, whatever else its sh:deactivated may be.
abbrev pub IsAsked : ShapeProperty → Term → Type 0
IsAsked ShPath v = ⊥
IsAsked ShIgnoredProperties v = ⊥
IsAsked ShQualifiedValueShapesDisjoint v = ⊥
IsAsked ShDeactivated v = v ≡ true_literal
IsAsked p v = Unit {0}

-- no chain of so many references leads from any shape
abbrev pub IsShallow : ℕ → List Triple → Type 0
IsShallow n s = (a : Term) (ms : List Term) → length ms ≡ n → References (reading s) a ms → ⊥

-- two readings that a validation can't tell apart
pub record SameReading (y z : Reading) : Type 0 where
  pub path : (p : Path) → y.path p ↔ z.path p
  pub is_node_shape : y.is_node_shape ↔ z.is_node_shape
  pub has : (p : ShapeProperty) (v : Term) → IsAsked p v → y.has p v ↔ z.has p v
  pub has_list : (p : ShapeProperty) → TakesMembers p → (head : Term) (members : List Term) → y.has_list p head members ↔ z.has_list p head members
  pub sibling : (t : Term) → y.sibling t ↔ z.sibling t
  pub allowed : (p : Term) → y.allowed p ↔ z.allowed p
  pub is_class : y.is_class ↔ z.is_class
