-- What one triple of a node adds to a list of parts.
use Rattle.std.specs.Prelude.{◌≡◌, ◌⊎◌, List, [], ◌∷◌, ◌++◌}
use Rattle.rdf_model.specs.declared.term.Term.{Term}
use Rattle.rdf_model.specs.declared.triple.Triple.{Triple}
use Rattle.shape_properties.specs.declared.property.ShapeProperty.{ShapeProperty}
use Rattle.shape_properties.specs.Properties.{property_iri}

-- the node has this value of the property
abbrev pub value_triple : Term → ShapeProperty → Term → Triple
value_triple n p v = record { subject = n; predicate = property_iri p; object = v }

-- the item was added, or nothing was
abbrev pub MayAdd : {X : Type 0} → X → List X → List X → Type 0
MayAdd t old new = (new ≡ old) ⊎ (new ≡ old ++ t ∷ [])
