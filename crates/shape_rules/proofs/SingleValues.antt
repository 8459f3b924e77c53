-- A property of which a shape has at most one value, by a well-formed graph.
use Rattle.std.proofs.Common.{◌≡◌, List, Some, IsTrue, refl, sym, inl}
use Rattle.rdf_model.specs.declared.term.Term.{Term}
use Rattle.rdf_model.specs.declared.triple.Triple.{Triple}
use Rattle.shape_syntax.proofs.Equals.{same_unless}
use Rattle.shape_properties.specs.declared.property.ShapeProperty.{ShapeProperty}
use Rattle.shape_properties.specs.Properties.{property_iri}
use Rattle.shape_properties.specs.Syntax.{HasProperty, IsShape}
use Rattle.shape_properties.specs.Table.{takes_one}
use Rattle.shape_rules.specs.Broken.{IsWellFormed}
use Rattle.shape_rules.specs.Rows.{row}

pub one_value : (s : List Triple) → IsWellFormed s → (n : Term) → IsShape s n → (p : ShapeProperty) → IsTrue (takes_one p) → (v w : Term) → HasProperty s n p v → HasProperty s n p w → v ≡ w
one_value s well n shape p takes v w h k = same_unless v w (λ apart. well (row n 1 (Some (property_iri p))) (inl (inl (inl (shape, inl (p, v, h, inl (takes, (w, k, λ e. apart (sym e)), refl)))))))
