use Rattle.std.proofs.Common.{◌≡◌, ◌<◌, ◌+◌, ◌++◌, ◌∷◌, [], ℕ, zero, suc, List, refl, sym, ap, subst, arith, inl, inr}
use Rattle.std.specs.Prelude.{◌⊎◌}
use Rattle.std.specs.List.{Contains}
use Rattle.std.proofs.lemmas.List.Elements.{Contains-append_left, Contains-push}
use Rattle.reference_totals.proofs.rounds.push_numbers.Goals as goal

below_cases : (i n : ℕ) → i < n + 1 → (i < n) ⊎ (n ≡ i)
below_cases zero zero l = inr refl
below_cases zero (suc n) l = inl (omega arith)
below_cases (suc i) zero l = absurd (omega arith)
below_cases (suc i) (suc n) l = elim (below_cases i n (omega arith)) [ inl h ↦ inl (omega arith) | inr e ↦ inr (ap suc e) ]

below_next : (xs : List ℕ) (n : ℕ) → ((i : ℕ) → i < n → Contains xs i) → (i : ℕ) → i < n + 1 → Contains (xs ++ n ∷ []) i
below_next xs n all i l = elim (below_cases i n l) [
  | inl h ↦ Contains-append_left xs (n ∷ []) i (all i h)
  | inr e ↦ subst (λ k. Contains (xs ++ n ∷ []) k) e (Contains-push xs n)
]

pub loop-number-preserved : goal.loop-number-preserved
loop-number-preserved c = subst (λ (xs : List ℕ). (i : ℕ) → i < c.loop-number.number + 1 → Contains xs i) (sym c.in_ok-push.ensures.ok)
    (below_next c.loop-number.numbers c.loop-number.number c.loop-number.invariant)
