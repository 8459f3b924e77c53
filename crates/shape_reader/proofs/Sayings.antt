-- The constraint that a value of a property says tells the triple.
use Rattle.std.proofs.Common.{◌≡◌, ◌∙◌, List, sym, ap}
use Rattle.rdf_model.specs.declared.term.Term.{Term}
use Rattle.rdf_model.specs.declared.triple.Triple.{Triple}
use Rattle.shape_model.specs.Components.{parameter_of}
use Rattle.shape_model.specs.Vocabulary.{property_iri}
use Rattle.shape_properties.specs.declared.property.ShapeProperty.{ShapeProperty}
use Rattle.shape_properties.specs.Properties.{property_iri as rule_iri}
use Rattle.shape_ast.specs.declared.constraint.Constraint.{Constraint}
use Rattle.shape_ast.specs.Readings.{component_of, parameter}
use Rattle.shape_ast.specs.Once.{constraint_triple}
use Rattle.shape_properties.specs.Adding.{value_triple}
use Rattle.shape_reader.specs.Parts.{SaysConstraint}
use Rattle.shape_properties.proofs.Defined.{same_iri}
use Rattle.shape_reader.proofs.Told.{same_parameter, same_property}
use Rattle.shape_reader.specs.Kinds.{kind}

pub constraint_by : (s : List Triple) (nodes : List Term) (n : Term) (p : ShapeProperty) (v : Term) (k : Constraint Term) → SaysConstraint s nodes p v k → constraint_triple n k ≡ value_triple n p v
constraint_by s nodes n p v k h =
    let iri : property_iri (parameter_of (component_of k)) ≡ rule_iri p = sym (same_iri (parameter_of (component_of k))) ∙ ap rule_iri (same_property s nodes p v k h) in
    let value : parameter k ≡ v = same_parameter s nodes (kind p) v k h in
    λ i. record { subject = n; predicate = iri i; object = value i }
