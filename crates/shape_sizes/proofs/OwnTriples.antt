-- What the triples of a node say of it is what the graph says.
use Rattle.std.proofs.Common.{◌≡◌, ◌++◌, ℕ, List, refl, subst, inl, inr}
use Rattle.std.specs.Prelude.{◌↔◌}
use Rattle.std.specs.List.{Contains}
use Rattle.rdf_model.specs.declared.term.Term.{Term}
use Rattle.rdf_model.specs.declared.triple.Triple.{Triple}
use Rattle.rdf_model.specs.Terms.{term_cmp}
use Rattle.rdf_model.specs.Orders.{term_total}
use Rattle.shape_model.proofs.Declarations.{values_law}
use Rattle.shape_model.proofs.Listings.{listing_same, one_listing}
use Rattle.shape_properties.specs.declared.property.ShapeProperty.{ShapeProperty}
use Rattle.shape_properties.specs.declared.property.ShapeProperty.TheVariants as properties
use Rattle.shape_properties.specs.Properties.{property_iri}
use Rattle.shape_properties.specs.Syntax.{HasProperty}
use Rattle.shape_sizes.specs.Sizes.{CountsIf, HasQualifiedCount, values}

module _ (s own : List Triple) (n : Term) (members : (t : Triple) → Contains own t ↔ (Contains s t × (t.subject ≡ n))) where
  pub own_property : (p : ShapeProperty) (v : Term) → HasProperty own n p v ↔ HasProperty s n p v
  own_property p v =
      let here = members (record { subject = n; predicate = property_iri p; object = v }) in
      (λ h. (here.0 h).0, λ h. here.1 (h, refl))

  own_value : (p : ShapeProperty) → values own n p ≡ values s n p
  own_value p =
      one_listing term_cmp term_total (HasProperty s n p) (values own n p) (values s n p)
      (listing_same term_cmp (HasProperty own n p) (HasProperty s n p) (own_property p) (values own n p) (values_law own n (property_iri p)))
      (values_law s n (property_iri p))

  pub own_values : values own n ≡ values s n
  own_values = λ i p. own_value p i

  -- the values of three properties, one after the other
  pub own_three : (a b c : ShapeProperty) (found : List Term) → found ≡ values own n a ++ values own n b ++ values own n c → found ≡ values s n a ++ values s n b ++ values s n c
  own_three a b c found h = subst (λ (of : ShapeProperty → List Term). found ≡ of a ++ of b ++ of c) own_values h

  pub own_counts : (p : ShapeProperty) (v : Term) (k count : ℕ) → CountsIf (HasProperty own n p v) k count → CountsIf (HasProperty s n p v) k count
  own_counts p v k count h = elim h [
    | inl d ↦ inl ((own_property p v).0 d.0, d.1)
    | inr d ↦ inr (λ e. d.0 ((own_property p v).1 e), d.1)
  ]

  pub own_qualified : HasQualifiedCount own n ↔ HasQualifiedCount s n
  own_qualified = (
    λ h. (h.0, elim h.1 [ inl d ↦ inl ((own_property properties.QualifiedMinCount h.0).0 d) | inr d ↦ inr ((own_property properties.QualifiedMaxCount h.0).0 d) ]),
    λ h. (h.0, elim h.1 [ inl d ↦ inl ((own_property properties.QualifiedMinCount h.0).1 d) | inr d ↦ inr ((own_property properties.QualifiedMaxCount h.0).1 d) ]),
  )
