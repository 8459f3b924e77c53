-- Pairs that a loop gathers, where a test says so.
use Rattle.std.proofs.Common.{◌≡◌, ◌∙◌, ℕ, ◌+◌, ◌<◌, ◌≤◌, List, [], ◌∷◌, ◌++◌, length, take, get_or, sym, ap, subst, inl, inr}
use Rattle.std.specs.Prelude.{◌↔◌, ◌⊎◌, IsTrue, Bool}
use Rattle.std.specs.List.{Contains}
use Rattle.std.proofs.lemmas.List.{take_all, take_more}
use Rattle.std.proofs.lemmas.List.Elements.{Contains-append_left, Contains-push, Contains-push_cases}
use Rattle.plain_terms.specs.Finds.{Finds}
use Rattle.plain_terms.proofs.FoundItems.{finds_one, finds_same}

-- the one item that there is where A holds, by a test of it
pub found_if : {X : Type 0} → (A : Type 0) (b : Bool) (x : X) (found : List X) → IsTrue b ↔ A → Finds (λ y. IsTrue b × (y ≡ x)) found → Finds (λ y. A × (y ≡ x)) found
found_if A b x found e h = finds_same (λ y. IsTrue b × (y ≡ x)) (λ y. A × (y ≡ x)) found (λ y. (λ k. (e.0 k.0, k.1), λ k. (e.1 k.0, k.1))) h

pub just_one : {X : Type 0} → (made x : X) → made ≡ x → Finds (λ y. y ≡ x) (made ∷ [])
just_one made x e = finds_one (λ y. y ≡ x) made (λ y. (λ k. e ∙ sym k, λ k. sym k ∙ e))

-- a list of the same items, so far and at the end
module _ {X : Type 0} (xs : List X) (i : ℕ) where
  pub once_more : (x : X) (found new : List X) → i < length xs → x ≡ get_or xs i x → Finds (Contains (take i xs)) found → ((y : X) → Contains new y ↔ (Contains found y ⊎ (x ≡ y))) → Finds (Contains (take (i + 1) xs)) new
  once_more x found new lt is h k =
      let t : take (i + 1) xs ≡ take i xs ++ x ∷ [] = take_more xs i x lt ∙ ap (λ w. take i xs ++ w ∷ []) (sym is) in
      subst (λ (front : List X). Finds (Contains front) new) (sym t) (record {
        members = λ y. (
          λ c. elim ((k y).0 c) [ inl d ↦ Contains-append_left (take i xs) (x ∷ []) y ((h.members y).0 d) | inr e ↦ subst (λ (z : X). Contains (take i xs ++ x ∷ []) z) e (Contains-push (take i xs) x) ],
          λ c. elim (Contains-push_cases (take i xs) x y c) [ inl d ↦ (k y).1 (inl ((h.members y).1 d)) | inr e ↦ (k y).1 (inr e) ],
        );
      })

  pub once_all : (found : List X) → length xs ≤ i → Finds (Contains (take i xs)) found → Finds (Contains xs) found
  once_all found le h = subst (λ (front : List X). Finds (Contains front) found) (take_all i xs le) h
