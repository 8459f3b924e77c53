-- Answers that are found declaration by declaration.
use Rattle.std.proofs.Common.{◌≡◌, ℕ, ◌+◌, ◌<◌, Bool, true, false, IsTrue, take, get_or, List, [], ◌∷◌, length, refl, sym, subst, arith, inl, inr}
use Rattle.std.specs.Prelude.{◌⊎◌, ◌↔◌, ◌==◌, not}
use Rattle.std.specs.List.{Contains}
use Rattle.std.proofs.lemmas.Bool.Decides.{nat_tests}
use Rattle.collections.proofs.Members.{has_head}
use Rattle.path_eval.proofs.Footprints.{some_next}

-- by the declarations before it, or by this one
pub next_answer : {X : Type 0} → (P : X → Type 0) (ts : List X) (i : ℕ) (t : X) → i < length ts → t ≡ get_or ts i t → (a b c : Bool) → (IsTrue c ↔ (IsTrue a ⊎ IsTrue b))
    → IsTrue a ↔ ((u : X) × Contains (take i ts) u × P u) → IsTrue b ↔ P t → IsTrue c ↔ ((u : X) × Contains (take (i + 1) ts) u × P u)
next_answer {X} P ts i t lt is a b c either x y =
    let k = some_next P ts i t lt in (
      λ h. k.1 (elim (either.0 h) [ inl l ↦ inl (x.0 l) | inr r ↦ inr (subst P is (y.0 r)) ]),
      λ h. either.1 (elim (k.0 h) [ inl l ↦ inl (x.1 l) | inr r ↦ inr (y.1 (subst P (sym is) r)) ]),
    )

-- whether a list has an item, by its length
pub any_is : (xs : List ℕ) (b : Bool) → b ≡ (length xs == 0) → IsTrue (not b) ↔ ((n : ℕ) × Contains xs n)
any_is [] true e = (λ h. cc, λ k. absurd (omega (arith, k.1.1)))
any_is [] false e = cc
any_is (x ∷ xs) true e = absurd (grind (arith, nat_tests, e))
any_is (x ∷ xs) false e = (λ h. (x, has_head x xs), λ k. refl)
