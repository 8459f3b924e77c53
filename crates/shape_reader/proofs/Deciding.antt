-- Whether a node is the head of a list can be told.
use Rattle.std.proofs.Common.{◌≡◌, ℕ, zero, suc, ◌<◌, ◌≤◌, Bool, true, false, List, [], ◌∷◌, length, refl, sym, subst, arith, inl, inr}
use Rattle.std.specs.Prelude.{◌⊎◌}
use Rattle.std.specs.List.{Contains}
use Rattle.std.specs.Ordering.{eq_by_cmp}
use Rattle.collections.proofs.Members.{has_head, has_tail}
use Rattle.rdf_model.specs.declared.term.Term.{Term}
use Rattle.rdf_model.specs.declared.triple.Triple.{Triple}
use Rattle.rdf_model.specs.Terms.{term_cmp}
use Rattle.shape_model.specs.ShapeSyntax.{IsCell, IsListEnd, ListOf}
use Rattle.shape_model.specs.Triples.{HasNone, HasOnly}
use Rattle.shape_model.specs.Vocabulary.{rdf_first, rdf_nil, rdf_rest}
use Rattle.shape_syntax.specs.Scans.{IsAnotherValue, IsValueTriple}
use Rattle.shape_syntax.proofs.Equals.{same_term}
use Rattle.shape_syntax.proofs.Lists.{list_short}
use Rattle.shape_syntax.proofs.Scans.{has_cases}
use Rattle.shape_syntax.proofs.Values.{another_from, not_only, only_from, value_of}

-- it holds, or it does not
abbrev pub Decided : Type 0 → Type 0
Decided P = P ⊎ (P → ⊥)

same : (a b : Term) → Decided (a ≡ b)
same a b = elim (eq_by_cmp term_cmp a b) as (λ (r : Bool). eq_by_cmp term_cmp a b ≡ r → Decided (a ≡ b)) [
  | true ↦ λ e. inl ((same_term a b).0 e)
  | false ↦ λ e. inr (λ d. let k = (same_term a b).1 d in cc)
] refl

both : (P Q : Type 0) → Decided P → Decided Q → Decided (P × Q)
both P Q p q = elim p [
  | inl h ↦ elim q [ inl k ↦ inl (h, k) | inr n ↦ inr (λ x. n x.1) ]
  | inr n ↦ inr (λ x. n x.0)
]

three : (P Q R : Type 0) → Decided P → Decided Q → Decided R → Decided (P × Q × R)
three P Q R p q r = elim p [
  | inl a ↦ elim q [
    | inl b ↦ elim r [ inl c ↦ inl (a, b, c) | inr n ↦ inr (λ x. n x.2) ]
    | inr n ↦ inr (λ x. n x.1)
  ]
  | inr n ↦ inr (λ x. n x.0)
]

not : (P : Type 0) → Decided P → Decided (P → ⊥)
not P p = elim p [ inl h ↦ inr (λ n. n h) | inr n ↦ inl n ]

find : (P : Triple → Type 0) → ((t : Triple) → Decided (P t)) → (s : List Triple) → ((t : Triple) × Contains s t × P t) ⊎ ((t : Triple) → Contains s t → P t → ⊥)
find P told [] = inr (λ t c p. absurd (omega arith))
find P told (u ∷ s) = elim (told u) [
  | inl p ↦ inl (u, has_head u s, p)
  | inr n ↦ elim (find P told s) [
    | inl h ↦ inl (h.0, has_tail u s h.0 h.1, h.2)
    | inr none ↦ inr (λ t c p. elim (has_cases u s t c) [ inl e ↦ n (subst P (sym e) p) | inr d ↦ none t d p ])
  ]
]

abbrev IsValueOf : Term → Term → Triple → Type 0
IsValueOf n p t = (t.subject ≡ n) × (t.predicate ≡ p)

none : (s : List Triple) (n p : Term) → Decided (HasNone s n p)
none s n p = elim (find (IsValueOf n p) (λ t. both _ _ (same t.subject n) (same t.predicate p)) s) [
  | inl t ↦ inr (λ k. k t.0.object (value_of s n p t.0 (t.1, t.2.0, t.2.1)))
  | inr lacks ↦ inl (λ v h. lacks (record { subject = n; predicate = p; object = v }) h (refl, refl))
]

only : (s : List Triple) (n p : Term) → ((v : Term) × HasOnly s n p v) ⊎ ((v : Term) → HasOnly s n p v → ⊥)
only s n p = elim (find (IsValueOf n p) (λ t. both _ _ (same t.subject n) (same t.predicate p)) s) [
  | inr lacks ↦ inr (λ v o. lacks (record { subject = n; predicate = p; object = v }) o.0 (refl, refl))
  | inl t ↦
      let there : IsValueTriple s n p t.0 = (t.1, t.2.0, t.2.1) in
      elim (find (IsAnotherValue t.0) (λ u. three _ _ _ (same u.subject t.0.subject) (same u.predicate t.0.predicate) (not _ (same t.0.object u.object))) s) [
        | inl u ↦ inr (not_only s n p t.0 there (another_from s t.0 u.0 u.1 u.2))
        | inr alone ↦ inl (t.0.object, only_from s n p t.0 there (λ h. alone (record { subject = t.0.subject; predicate = t.0.predicate; object = h.0 }) h.1 (refl, refl, h.2)))
      ]
]

cell : (s : List Triple) (n : Term) → ((m : Term) × (k : Term) × IsCell s n m k) ⊎ ((m k : Term) → IsCell s n m k → ⊥)
cell s n = elim (only s n rdf_first) [
  | inr lacks ↦ inr (λ m k c. lacks m c.0)
  | inl f ↦ elim (only s n rdf_rest) [
    | inr lacks ↦ inr (λ m k c. lacks k c.1)
    | inl r ↦ inl (f.0, r.0, (f.1, r.1))
  ]
]

end : (s : List Triple) (n : Term) → Decided (IsListEnd s n)
end s n = three _ _ _ (same n rdf_nil) (none s n rdf_first) (none s n rdf_rest)

within : (steps : ℕ) (s : List Triple) (n : Term) → ((ms : List Term) × ListOf s n ms) ⊎ ((ms : List Term) → ListOf s n ms → length ms < steps → ⊥)
within zero s n = inr (λ ms l lt. absurd (omega arith))
within (suc steps) s n = elim (end s n) [
  | inl e ↦ inl ([], e)
  | inr unended ↦ elim (cell s n) [
    | inr broken ↦ inr (λ ms l lt. no_cell unended broken ms l)
    | inl c ↦ elim (within steps s c.1) [
      | inl r ↦ inl (c.0 ∷ r.0, (c.1, c.2, r.1))
      | inr none ↦ inr (λ ms l lt. no_rest unended c.0 c.1 c.2 none ms l lt)
    ]
  ]
]
  where
    no_cell : (IsListEnd s n → ⊥) → ((m k : Term) → IsCell s n m k → ⊥) → (ms : List Term) → ListOf s n ms → ⊥
    no_cell unended broken [] l = unended l
    no_cell unended broken (m ∷ ms) l = broken m l.0 l.1

    no_rest : (IsListEnd s n → ⊥) → (m k : Term) → IsCell s n m k → ((ms : List Term) → ListOf s k ms → length ms < steps → ⊥) → (ms : List Term) → ListOf s n ms → length ms < suc steps → ⊥
    no_rest unended m k c none [] l lt = unended l
    no_rest unended m k c none (o ∷ ms) l lt = none ms (subst (λ (j : Term). ListOf s j ms) (c.1.1 l.0 l.1.1.0) l.2) (omega arith)

-- a node that isn't without a list is the head of one
pub list_unless : (s : List Triple) (n : Term) → (((ms : List Term) × ListOf s n ms → ⊥) → ⊥) → (ms : List Term) × ListOf s n ms
list_unless s n h = elim (within (suc (length s)) s n) [
  | inl l ↦ l
  | inr lacks ↦ absurd (h (λ l. let short : length l.0 ≤ length s = list_short s n l.0 l.1 in lacks l.0 l.1 (omega arith)))
]
