use Rattle.std.proofs.Common.{◌≡◌, take}
use Rattle.std.specs.List.{Contains}
use Rattle.rdf_model.specs.declared.term.Term.TheVariants.{Iri}
use Rattle.shape_properties.specs.Properties.{property_iri}
use Rattle.shape_properties.specs.declared.property.ShapeProperty.{ShapeProperty}
use Rattle.shape_properties.proofs.property.find_property.Given as goal

abbrev pub invariant-loop-property : goal.invariant-loop-property
invariant-loop-property l = (p : ShapeProperty) → Contains (take l.property-index l.property-items) p → Iri l.iri ≡ property_iri p → ⊥
