-- What an ordered set of terms has, and what it has with one term more.
use Rattle.std.proofs.Common.{◌≡◌, ◌∙◌, List, [], ◌∷◌, refl, sym, arith, inl, inr, Bool, true, false}
use Rattle.std.specs.List.{Contains, list_any}
use Rattle.std.specs.declared.cmp.Ordering.{Ordering}
use Rattle.std.specs.declared.cmp.Ordering.TheVariants.{Less, Equal, Greater}
use Rattle.std.specs.Ordering.{match_ordering, is_eq}
use Rattle.std.specs.BTreeSet.{insert_key}
use Rattle.collections.proofs.Members.{has_cases, has_equal, has_tail}
use Rattle.rdf_model.specs.declared.term.Term.{Term}
use Rattle.rdf_model.specs.Terms.{term_cmp}
use Rattle.rdf_model.specs.Orders.{term_exact}
use Rattle.shape_syntax.proofs.Equals.{same_term}
use Rattle.shape_syntax.specs.PathSteps.{Adds}

pub key_from : (t : Term) (ks : List Term) → list_any (λ k. is_eq (term_cmp t k)) ks ≡ true → Contains ks t
key_from t [] h = cc
key_from t (k ∷ ks) h = elim (is_eq (term_cmp t k)) as (λ (b : Bool). is_eq (term_cmp t k) ≡ b → Contains (k ∷ ks) t) [
  | true ↦ λ e. has_equal k ks t (sym ((same_term t k).0 e))
  | false ↦ λ e. has_tail k ks t (key_from t ks (grind (arith, e, h)))
] refl

pub key_to : (t : Term) (ks : List Term) → Contains ks t → list_any (λ k. is_eq (term_cmp t k)) ks ≡ true
key_to t [] c = absurd (omega arith)
key_to t (k ∷ ks) c = elim (has_cases k ks t c) [
  | inl e ↦ (let first = (same_term t k).1 (sym e) in grind (arith, first))
  | inr d ↦ (let rest = key_to t ks d in elim (is_eq (term_cmp t k)) as (λ (b : Bool). is_eq (term_cmp t k) ≡ b → list_any (λ j. is_eq (term_cmp t j)) (k ∷ ks) ≡ true) [
    | true ↦ λ e. grind (arith, e)
    | false ↦ λ e. grind (arith, e, rest)
  ] refl)
]

-- a key that is put into its place is there, beside the others
at_place : (k : Term) (ks rest : List Term) (t : Term) (o : Ordering) → term_cmp t k ≡ o → Adds ks t rest → Adds (k ∷ ks) t (match_ordering o (t ∷ k ∷ ks) (k ∷ ks) (k ∷ rest))
at_place k ks rest t Less e h u = (
  λ c. elim (has_cases t (k ∷ ks) u c) [ inl same ↦ inr same | inr d ↦ inl d ],
  λ p. elim p [ inl c ↦ has_tail t (k ∷ ks) u c | inr same ↦ has_equal t (k ∷ ks) u same ],
)
at_place k ks rest t Equal e h u = (
  λ c. inl c,
  λ p. elim p [ inl c ↦ c | inr same ↦ has_equal k ks u (sym (term_exact t k e) ∙ same) ],
)
at_place k ks rest t Greater e h u = (
  λ c. elim (has_cases k rest u c) [
    | inl same ↦ inl (has_equal k ks u same)
    | inr d ↦ elim ((h u).0 d) [ inl old ↦ inl (has_tail k ks u old) | inr same ↦ inr same ]
  ],
  λ p. elim p [
    | inl c ↦ elim (has_cases k ks u c) [ inl same ↦ has_equal k rest u same | inr d ↦ has_tail k rest u ((h u).1 (inl d)) ]
    | inr same ↦ has_tail k rest u ((h u).1 (inr same))
  ],
)

pub key_added : (ks : List Term) (t : Term) → Adds ks t (insert_key term_cmp ks t)
key_added [] t u = (
  λ c. elim (has_cases t [] u c) [ inl same ↦ inr same | inr never ↦ absurd (omega arith) ],
  λ p. elim p [ inl c ↦ absurd (omega arith) | inr same ↦ has_equal t [] u same ],
)
key_added (k ∷ ks) t u = at_place k ks (insert_key term_cmp ks t) t (term_cmp t k) refl (key_added ks t) u
