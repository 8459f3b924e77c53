-- Which nodes of a shapes graph are shapes (SHACL 2.1).
use Rattle.std.specs.Prelude.{◌≡◌, ◌⊎◌, Bool, true, false, IsTrue, List, codes}
use Rattle.rdf_model.specs.declared.term.Term.{Term}
use Rattle.rdf_model.specs.declared.triple.Triple.{Triple}
use Rattle.shape_model.specs.Vocabulary.{sh}
use Rattle.shape_model.specs.Triples.{Has, IsMember}
use Rattle.shape_model.specs.Instances.{Instance}
use Rattle.shape_model.specs.ShapeSyntax.{ListOf}
use Rattle.shape_properties.specs.declared.property.ShapeProperty.{ShapeProperty}
use Rattle.shape_properties.specs.declared.property.ShapeProperty.TheVariants as properties
use Rattle.shape_properties.specs.declared.table.Role.{Role}
use Rattle.shape_properties.specs.declared.table.Role.TheVariants as roles
use Rattle.shape_properties.specs.Properties.{property_iri}
use Rattle.shape_properties.specs.Table.{role}

-- v is a value of the property at the node
abbrev pub HasProperty : List Triple → Term → ShapeProperty → Term → Type 0
HasProperty s n p v = Has s n (property_iri p) v

-- this holds of some property of the node and some value of it
abbrev pub SomeValue : List Triple → Term → (ShapeProperty → Term → Type 0) → Type 0
SomeValue s n P = (p : ShapeProperty) × (v : Term) × HasProperty s n p v × P p v

-- the node has a sh:path
abbrev pub HasPath : List Triple → Term → Type 0
HasPath s n = (v : Term) × HasProperty s n properties.Path v

-- n is a member of the list at the head
abbrev pub IsListed : List Triple → Term → Term → Type 0
IsListed s head n = (members : List Term) × ListOf s head members × IsMember members n

-- declarations of targets and parameters make their subject a shape
abbrev pub makes_shape : Role → Bool
makes_shape roles.DeclaresTargets = true
makes_shape roles.ExpectsShape = true
makes_shape roles.TakesShapes = true
makes_shape roles.Parameter = true
makes_shape roles.Other = false

-- a value of a shape-expecting parameter is a shape, and so is a member of a list of shapes
abbrev pub Takes : List Triple → Role → Term → Term → Type 0
Takes s roles.DeclaresTargets v n = ⊥
Takes s roles.ExpectsShape v n = v ≡ n
Takes s roles.TakesShapes v n = IsListed s v n
Takes s roles.Parameter v n = ⊥
Takes s roles.Other v n = ⊥

-- some node takes it as a shape
abbrev pub IsTaken : List Triple → Term → Type 0
IsTaken s n = (parent : Term) × SomeValue s parent (λ p v. Takes s (role p) v n)

abbrev pub IsShape : List Triple → Term → Type 0
IsShape s n =
    Instance s n (sh (codes "NodeShape"))
    ⊎ Instance s n (sh (codes "PropertyShape"))
    ⊎ SomeValue s n (λ p v. IsTrue (makes_shape (role p)))
    ⊎ IsTaken s n
