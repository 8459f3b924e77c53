-- What was gathered says what the triples of a node say.
use Rattle.std.proofs.Common.{◌≡◌, ℕ, List, [], Option, Some, subst, arith, inl, inr}
use Rattle.std.specs.Prelude.{◌↔◌, ◌⊎◌}
use Rattle.std.specs.List.{Contains}
use Rattle.rdf_model.specs.declared.term.Term.{Term}
use Rattle.rdf_model.specs.declared.triple.Triple.{Triple}
use Rattle.shape_model.specs.Readings.{Sibling}
use Rattle.shape_model.specs.ShapeSyntax.{ListOf}
use Rattle.shape_model.specs.Triples.{IsMember}
use Rattle.shape_syntax.proofs.Lists.{one_list}
use Rattle.shape_syntax.proofs.Scans.{contains_member, member_contains}
use Rattle.shape_properties.specs.declared.property.ShapeProperty.{ShapeProperty}
use Rattle.shape_properties.specs.declared.property.ShapeProperty.TheVariants as vocabulary
use Rattle.shape_properties.specs.Syntax.{HasProperty}
use Rattle.shape_syntax.specs.Gathering.{Gives}
use Rattle.shape_reader.specs.Parts.{HasOne, HasPlace, HasSibling, IsIgnored, IsPlace}

module _ (s : List Triple) (nodes : List Term) (n : Term) where
  pub values_placed : (p : ShapeProperty) (found : List Term) (ks : List ℕ) → ((v : Term) → Contains found v ↔ HasProperty s n p v) → ((k : ℕ) → Contains ks k ↔ Gives (λ (t : Term) (j : ℕ). IsPlace nodes j t) found k) → (k : ℕ) → Contains ks k ↔ HasPlace s nodes n p k
  values_placed p found ks all placed k = (
    λ c. let g = (placed k).0 c in (g.0, (all g.0).0 g.1, g.2),
    λ h. (placed k).1 (h.0, (all h.0).1 h.1, h.2),
  )

  pub siblings_placed : (found : List Term) (ks : List ℕ) → ((v : Term) → Contains found v ↔ (Contains [] v ⊎ Sibling s n v)) → ((k : ℕ) → Contains ks k ↔ Gives (λ (t : Term) (j : ℕ). IsPlace nodes j t) found k) → (k : ℕ) → Contains ks k ↔ HasSibling s nodes n k
  siblings_placed found ks all placed k = (
    λ c. let g = (placed k).0 c in (g.0, elim ((all g.0).0 g.1) [ inl none ↦ absurd (let l = none.1 in omega arith) | inr h ↦ h ], g.2),
    λ h. (placed k).1 (h.0, (all h.0).1 (inr h.1), h.2),
  )

  pub place_some : (p : ShapeProperty) (v : Term) (found : Option ℕ) → HasOne s n p → HasProperty s n p v → ((k : ℕ) → (found ≡ Some k) ↔ IsPlace nodes k v) → (k : ℕ) → (found ≡ Some k) ↔ HasPlace s nodes n p k
  place_some p v found one h placed k = (
    λ e. (v, h, (placed k).0 e),
    λ w. (placed k).1 (subst (λ (t : Term). IsPlace nodes k t) (one w.0 v w.1 h) w.2),
  )

  pub ignored_some : (head : Term) (ms : List Term) → HasOne s n vocabulary.IgnoredProperties → HasProperty s n vocabulary.IgnoredProperties head → ListOf s head ms → (t : Term) → Contains ms t ↔ IsIgnored s n t
  ignored_some head ms one h l t = (
    λ c. (head, h, (ms, l, contains_member ms t c)),
    λ g.
        let at : ListOf s head g.2.0 = subst (λ (u : Term). ListOf s u g.2.0) (one g.0 head g.1 h) g.2.1 in
        member_contains ms t (subst (λ (us : List Term). IsMember us t) (one_list s head g.2.0 ms at l) g.2.2),
  )

  pub ignored_none : ((t : Term) → IsIgnored s n t → ⊥) → (t : Term) → Contains [] t ↔ IsIgnored s n t
  ignored_none lacks t = (λ c. absurd (let l = c.1 in omega arith), λ g. absurd (lacks t g))
