-- Any number of walks: none, or one and any number after it.
use Rattle.std.proofs.Common.{◌≡◌, ◌∷◌, ◌++◌, ℕ, List, [], inl, inr, refl, subst, sym, arith}
use Rattle.std.specs.Prelude.{◌⊎◌, ◌↔◌}
use Rattle.std.specs.List.{Contains}
use Rattle.std.specs.Ordering.{nat_cmp}
use Rattle.std.proofs.lemmas.List.Elements.{Contains-append_cases, Contains-append_left, Contains-append_right}
use Rattle.collections.specs.Listings.{IsListing}
use Rattle.rdf_model.specs.declared.look.Look.{Look}
use Rattle.path_eval.specs.Relations.{FromSome, IsFollowed, NumberChain, Repeated}
use Rattle.path_eval.specs.NumberedLooks.{AtRepeated}
use Rattle.path_eval.proofs.Follow.{followed_then, some_same}
use Rattle.path_eval.proofs.Growing.{adds_same}

-- from no start
pub followed_none : (R : ℕ → ℕ → Type 0) (L : ℕ → Look ℕ → Type 0) (looks : List (Look ℕ)) → IsFollowed [] R L looks looks []
followed_none R L looks = record {
  listed = record { ascending = tt; members = λ y. ((λ c. absurd (omega arith)), (λ h. let c = h.1 in absurd (omega arith))) };
  looks = λ look. ((λ c. inl c), elim [ inl c ↦ c | inr h ↦ let d = h.1 in absurd (omega arith) ]);
}

module _ (R : ℕ → ℕ → Type 0) where
  by_steps : (x y : ℕ) (zs : List ℕ) → NumberChain R x zs y → (x ≡ y) ⊎ ((z : ℕ) × R x z × Repeated R z y)
  by_steps x y [] h = inl h
  by_steps x y (z ∷ zs) h = inr (z, h.0, (zs, h.1))

  by_none : (x : ℕ) → Repeated R x x
  by_none x = ([], refl)

  by_more : (x z y : ℕ) → R x z → Repeated R z y → Repeated R x y
  by_more x z y r h = (z ∷ h.0, (r, h.1))

module _ (R : ℕ → ℕ → Type 0) (L : ℕ → Look ℕ → Type 0) where
  looks_by_steps : (x : ℕ) (look : Look ℕ) → (L x look ⊎ ((z : ℕ) × R x z × AtRepeated R L z look)) ↔ AtRepeated R L x look
  looks_by_steps x look = (
    elim [ inl l ↦ (x, by_none R x, l) | inr h ↦ (h.2.0, by_more R x h.0 h.2.0 h.1 h.2.1, h.2.2) ],
    λ h. elim (by_steps R x h.0 h.1.0 h.1.1) [ inl e ↦ inl (subst (λ (z : ℕ). L z look) (sym e) h.2) | inr k ↦ inr (k.0, k.1, (h.0, k.2, h.2)) ],
  )

  -- the starts, and the ends of any number of walks from those of one walk
  pub followed_again : (starts : List ℕ) (old mid new : List (Look ℕ)) (once further ends : List ℕ) → IsFollowed starts R L old mid once → IsFollowed once (Repeated R) (AtRepeated R L) mid new further
      → IsListing nat_cmp (Contains (further ++ starts)) ends → IsFollowed starts (Repeated R) (AtRepeated R L) old new ends
  followed_again starts old mid new once further ends h k sorted =
      let both = followed_then starts R (Repeated R) L (AtRepeated R L) old mid new once further h k in
      record {
        listed = record {
          ascending = sorted.ascending;
          members = λ y. (
            λ c. elim (Contains-append_cases further starts y ((sorted.members y).0 c)) [
              | inl d ↦ let s = (both.listed.members y).0 d in (s.0, s.1, by_more R s.0 s.2.0 y s.2.1 s.2.2)
              | inr d ↦ (y, d, by_none R y)
            ],
            λ s. (sorted.members y).1 (elim (by_steps R s.0 y s.2.0 s.2.1) [
              | inl e ↦ Contains-append_right further starts y (subst (λ (z : ℕ). Contains starts z) e s.1)
              | inr m ↦ Contains-append_left further starts y ((both.listed.members y).1 (s.0, s.1, m))
            ]),
          );
        };
        looks = adds_same old new (FromSome starts (λ x look. L x look ⊎ ((z : ℕ) × R x z × AtRepeated R L z look))) (FromSome starts (AtRepeated R L))
            (some_same starts (λ x look. L x look ⊎ ((z : ℕ) × R x z × AtRepeated R L z look)) (AtRepeated R L) looks_by_steps) both.looks;
      }
