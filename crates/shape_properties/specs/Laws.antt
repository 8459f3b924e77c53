-- That properties and shapes by the table of properties are those of SHACL.
use Rattle.std.specs.Prelude.{◌≡◌, ◌↔◌, List}
use Rattle.rdf_model.specs.declared.term.Term.{Term}
use Rattle.rdf_model.specs.declared.triple.Triple.{Triple}
use Rattle.shape_model.specs.ShapeSyntax as definitions
use Rattle.shape_model.specs.Vocabulary as vocabulary
use Rattle.shape_properties.specs.declared.property.ShapeProperty.{ShapeProperty}
use Rattle.shape_properties.specs.Properties.{property_iri}
use Rattle.shape_properties.specs.Syntax.{IsShape}

-- each property that a validation reads is one of the table, under the same IRI
abbrev pub PropertiesAreDefined : Type 0
PropertiesAreDefined = (q : vocabulary.ShapeProperty) → (p : ShapeProperty) × (property_iri p ≡ vocabulary.property_iri q)

-- a node is a shape by the table of properties where it is one by SHACL 2.1
abbrev pub ShapesAreDefined : Type 0
ShapesAreDefined = (s : List Triple) (n : Term) → IsShape s n ↔ definitions.IsShape s n
