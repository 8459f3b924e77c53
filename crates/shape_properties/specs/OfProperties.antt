-- What one triple says by its property: which node it takes as a shape, and whether it makes its subject one.
use Rattle.std.specs.Prelude.{◌≡◌, ◌⊎◌, IsTrue, List, codes}
use Rattle.rdf_model.specs.declared.term.Term.{Term}
use Rattle.rdf_model.specs.declared.triple.Triple.{Triple}
use Rattle.shape_model.specs.Vocabulary.{sh}
use Rattle.shape_model.specs.Instances.{Instance}
use Rattle.shape_properties.specs.declared.property.ShapeProperty.{ShapeProperty}
use Rattle.shape_properties.specs.Properties.{property_iri}
use Rattle.shape_properties.specs.Table.{role}
use Rattle.shape_properties.specs.Syntax.{SomeValue, Takes, makes_shape}

-- this holds of the triple's property and its object
abbrev pub OfTriple : Triple → (ShapeProperty → Term → Type 0) → Type 0
OfTriple t P = (p : ShapeProperty) × (t.predicate ≡ property_iri p) × P p t.object

-- the triple takes the node as a shape
abbrev pub TakenBy : List Triple → Triple → Term → Type 0
TakenBy s t n = OfTriple t (λ p v. Takes s (role p) v n)

-- the triple makes its subject a shape
abbrev pub OfMaking : Triple → Type 0
OfMaking t = OfTriple t (λ p v. IsTrue (makes_shape (role p)))

-- the node says itself that it is a shape: by its class, or by a property
abbrev pub SaysShape : List Triple → Term → Type 0
SaysShape s n = Instance s n (sh (codes "NodeShape")) ⊎ (Instance s n (sh (codes "PropertyShape")) ⊎ SomeValue s n (λ p v. IsTrue (makes_shape (role p))))

-- n is this node, which says so
abbrev pub IsShapeAt : List Triple → Term → Term → Type 0
IsShapeAt s m n = (m ≡ n) × SaysShape s n
