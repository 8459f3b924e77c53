-- What the triples of a node show by their properties holds of some value of the node.
use Rattle.std.proofs.Common.{◌≡◌, List, refl, subst}
use Rattle.std.specs.Prelude.{◌↔◌}
use Rattle.std.specs.List.{Contains}
use Rattle.rdf_model.specs.declared.term.Term.{Term}
use Rattle.rdf_model.specs.declared.triple.Triple.{Triple}
use Rattle.shape_syntax.proofs.Values.{value_of}
use Rattle.shape_properties.specs.declared.property.ShapeProperty.{ShapeProperty}
use Rattle.shape_properties.specs.Properties.{property_iri}
use Rattle.shape_properties.specs.Syntax.{HasProperty, SomeValue}
use Rattle.shape_properties.specs.OfProperties.{OfTriple}

-- the triples of the node
abbrev pub AreOf : List Triple → List Triple → Term → Type 0
AreOf s own n = (t : Triple) → Contains own t ↔ (Contains s t × (t.subject ≡ n))

pub value_in : (s own : List Triple) (n : Term) (p : ShapeProperty) (t : Triple) → AreOf s own n → Contains own t → t.predicate ≡ property_iri p → HasProperty s n p t.object
value_in s own n p t all c e = let k = (all t).0 c in value_of s n (property_iri p) t (k.0, k.1, e)

pub some_value : (s own : List Triple) (n : Term) (P : Term → ShapeProperty → Term → Type 0) → AreOf s own n → ((t : Triple) × Contains own t × OfTriple t (P t.subject)) ↔ SomeValue s n (P n)
some_value s own n P all = (
  λ h. let t = h.0 in let k = (all t).0 h.1 in (h.2.0, t.object, value_in s own n h.2.0 t all h.1 h.2.1, subst (λ (m : Term). P m h.2.0 t.object) k.1 h.2.2),
  λ h. (record { subject = n; predicate = property_iri h.0; object = h.1 }, (all (record { subject = n; predicate = property_iri h.0; object = h.1 })).1 (h.2, refl), (h.0, refl, h.3)),
)
