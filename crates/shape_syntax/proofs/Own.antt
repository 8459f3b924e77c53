-- What the triples of a node say of it is what the graph says.
use Rattle.std.proofs.Common.{List, refl}
use Rattle.std.specs.Prelude.{◌≡◌, ◌↔◌, Option, Some, None, MatchOption}
use Rattle.std.specs.List.{Contains}
use Rattle.rdf_model.specs.declared.term.Term.{Term}
use Rattle.rdf_model.specs.declared.triple.Triple.{Triple}
use Rattle.shape_model.specs.Triples.{Has, HasNone, HasOnly}
use Rattle.shape_model.specs.ShapeSyntax.{IsCell}
use Rattle.shape_model.specs.Vocabulary.{rdf_first, rdf_rest}

module _ (s own : List Triple) (n : Term) (members : (t : Triple) → Contains own t ↔ (Contains s t × (t.subject ≡ n))) where
  pub own_has : (p v : Term) → Has own n p v ↔ Has s n p v
  own_has p v =
      let here = members (record { subject = n; predicate = p; object = v }) in
      (λ h. (here.0 h).0, λ h. here.1 (h, refl))

  pub own_only : (p v : Term) → HasOnly own n p v ↔ HasOnly s n p v
  own_only p v = (
    λ h. ((own_has p v).0 h.0, λ z k. h.1 z ((own_has p z).1 k)),
    λ h. ((own_has p v).1 h.0, λ z k. h.1 z ((own_has p z).0 k)),
  )

  pub own_none : (p : Term) → HasNone own n p ↔ HasNone s n p
  own_none p = (λ h y k. h y ((own_has p y).1 k), λ h y k. h y ((own_has p y).0 k))

  pub own_cell : (m k : Term) → IsCell own n m k ↔ IsCell s n m k
  own_cell m k = (
    λ h. ((own_only rdf_first m).0 h.0, (own_only rdf_rest k).0 h.1),
    λ h. ((own_only rdf_first m).1 h.0, (own_only rdf_rest k).1 h.1),
  )

-- what follows of none and of one
pub match_map : {X : Type 0} (found : Option X) (P R : Type 0) (Q S : X → Type 0) → (P → R) → ((x : X) → Q x → S x) → MatchOption found P Q → MatchOption found R S
match_map None P R Q S none some h = none h
match_map (Some x) P R Q S none some h = some x h
