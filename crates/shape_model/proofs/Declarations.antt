-- The values of a property are listed each once, in order.
use Rattle.std.proofs.Common.{◌≡◌, ◌∙◌, Bool, true, false, List, [], ◌∷◌, refl, sym, ap, subst, arith, inl, inr}
use Rattle.std.specs.Prelude.{◌&&◌, if◌then◌else◌}
use Rattle.std.specs.List.{Contains}
use Rattle.std.specs.Cmp.Derive.{both_true}
use Rattle.collections.specs.Ordered.{IsAscending, with_item}
use Rattle.collections.proofs.Ascending.{IsAscending-with_item}
use Rattle.collections.proofs.Members.{has_cases, has_equal, has_tail, with_cases, with_new, with_old}
use Rattle.rdf_model.specs.declared.term.Term.{Term}
use Rattle.rdf_model.specs.declared.triple.Triple.{Triple}
use Rattle.rdf_model.specs.Matching.{same_term}
use Rattle.rdf_model.specs.Orders.{term_exact, term_total}
use Rattle.rdf_model.specs.Terms.{term_cmp}
use Rattle.rdf_model.proofs.SameTerms.{equal_same, same_equal}
use Rattle.shape_model.specs.Declarations.{is_statement_of, values_of}
use Rattle.shape_model.specs.Laws.{ValuesLaw}
use Rattle.shape_model.specs.Triples.{Has}

both : (a b : Bool) → (a && b) ≡ true → (a ≡ true) × (b ≡ true)
both true true e = (refl, refl)
both true false e = cc
both false b e = cc

module _ (n p : Term) where
  abbrev statement : Term → Triple
  statement v = record { subject = n; predicate = p; object = v }

  -- a value of the property is its triple
  is_statement : (t : Triple) (v : Term) → t ≡ statement v → is_statement_of n p t ≡ true
  is_statement t v e = subst (λ (x : Triple). is_statement_of n p x ≡ true) (sym e) (both_true (equal_same n n refl) (equal_same p p refl))

  statement_of : (t : Triple) (v : Term) → is_statement_of n p t ≡ true → t.object ≡ v → t ≡ statement v
  statement_of t v e same =
      let k = both (same_term n t.subject) (same_term p t.predicate) e in
      let a : n ≡ t.subject = same_equal n t.subject k.0 in
      let b : p ≡ t.predicate = same_equal p t.predicate k.1 in
      ap (λ (x : Term). record { subject = x; predicate = t.predicate; object = t.object }) (sym a)
      ∙ ap (λ (x : Term). record { subject = n; predicate = x; object = t.object }) (sym b)
      ∙ ap statement same

  ascending : (s : List Triple) → IsAscending term_cmp (values_of s n p)
  ascending [] = tt
  ascending (t ∷ s) = elim (is_statement_of n p t) as (λ b. IsAscending term_cmp (if b then with_item term_cmp t.object (values_of s n p) else values_of s n p)) [
    | true ↦ IsAscending-with_item term_total t.object (values_of s n p) (ascending s)
    | false ↦ ascending s
  ]

  from : (s : List Triple) (v : Term) → Contains (values_of s n p) v → Has s n p v
  from [] v c = absurd (omega arith)
  from (t ∷ s) v c = elim (is_statement_of n p t) as (λ b. is_statement_of n p t ≡ b → Contains (if b then with_item term_cmp t.object (values_of s n p) else values_of s n p) v → Contains (t ∷ s) (statement v)) [
    | true ↦ λ e d. elim (with_cases term_cmp t.object (values_of s n p) v d) [
      | inl same ↦ has_equal t s (statement v) (statement_of t v e same)
      | inr k ↦ has_tail t s (statement v) (from s v k)
    ]
    | false ↦ λ e d. has_tail t s (statement v) (from s v d)
  ] refl c

  to : (s : List Triple) (v : Term) → Has s n p v → Contains (values_of s n p) v
  to [] v h = absurd (omega arith)
  to (t ∷ s) v h = elim (is_statement_of n p t) as (λ b. is_statement_of n p t ≡ b → Contains (if b then with_item term_cmp t.object (values_of s n p) else values_of s n p) v) [
    | true ↦ λ e. elim (has_cases t s (statement v) h) [
      | inl same ↦ subst (λ (x : Term). Contains (with_item term_cmp t.object (values_of s n p)) x) (ap (λ (x : Triple). x.object) same) (with_new term_cmp term_total term_exact t.object (values_of s n p))
      | inr k ↦ with_old term_cmp t.object (values_of s n p) v (to s v k)
    ]
    | false ↦ λ e. elim (has_cases t s (statement v) h) [
      | inl same ↦ let k = is_statement t v same in cc (e, k)
      | inr k ↦ to s v k
    ]
  ] refl

pub values_law : ValuesLaw
values_law s n p = record { ascending = ascending n p s; members = λ v. (from n p s v, to n p s v) }
