-- The parameters of a node (SHACL 2.1, section 4).
use Rattle.std.specs.Prelude.{◌≡◌, Bool, true, false, List}
use Rattle.rdf_model.specs.declared.term.Term.{Term}
use Rattle.rdf_model.specs.declared.triple.Triple.{Triple}
use Rattle.shape_model.specs.ShapeSyntax.{HasProperty, makes_shape}
use Rattle.shape_model.specs.Vocabulary.{ShapeProperty, property_iri, ShTargetNode, ShTargetClass, ShTargetSubjectsOf, ShTargetObjectsOf}

-- the properties that make their subject a shape are parameters, but for the declarations of targets (SHACL 2.1.3)
abbrev pub is_parameter : ShapeProperty → Bool
is_parameter ShTargetNode = false
is_parameter ShTargetClass = false
is_parameter ShTargetSubjectsOf = false
is_parameter ShTargetObjectsOf = false
is_parameter p = makes_shape p

-- the node has this value of the parameter that has the IRI
abbrev pub Param : List Triple → Term → Term → Term → Type 0
Param s n iri v = (p : ShapeProperty) × (is_parameter p ≡ true) × (property_iri p ≡ iri) × HasProperty s n p v
