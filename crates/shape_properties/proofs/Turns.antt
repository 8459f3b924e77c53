-- Some items of a list, in their order.
use Rattle.std.proofs.Common.{◌≡◌, ◌∙◌, ℕ, ◌+◌, ◌<◌, ◌≤◌, List, [], ◌∷◌, ◌++◌, length, take, get_or, refl, sym, ap, subst, inl, inr}
use Rattle.std.specs.Prelude.{◌⊎◌}
use Rattle.std.specs.declared.cmp.Ordering.{Ordering}
use Rattle.std.proofs.lemmas.List.{take_all, take_more}
use Rattle.collections.specs.Ordered.{AllAbove, IsAscending}
use Rattle.shape_properties.specs.Adding.{MayAdd}

abbrev pub SomeOf : {X : Type 0} → List X → List X → Type 0
SomeOf [] ys = ys ≡ []
SomeOf {X} (x ∷ xs) ys = SomeOf xs ys ⊎ ((zs : List X) × (ys ≡ x ∷ zs) × SomeOf xs zs)

module _ {X : Type 0} where
  some_skip : (xs ys : List X) (t : X) → SomeOf xs ys → SomeOf (xs ++ t ∷ []) ys
  some_skip [] ys t h = inl h
  some_skip (x ∷ xs) ys t h = elim h [ inl k ↦ inl (some_skip xs ys t k) | inr k ↦ inr (k.0, k.1, some_skip xs k.0 t k.2) ]

  some_more : (xs ys : List X) (t : X) → SomeOf xs ys → SomeOf (xs ++ t ∷ []) (ys ++ t ∷ [])
  some_more [] ys t h = inr ([], ap (λ (zs : List X). zs ++ t ∷ []) h, refl)
  some_more (x ∷ xs) ys t h = elim h [
    | inl k ↦ inl (some_more xs ys t k)
    | inr k ↦ inr (k.0 ++ t ∷ [], ap (λ (zs : List X). zs ++ t ∷ []) k.1, some_more xs k.0 t k.2)
  ]

  some_above : (R : X → X → Ordering) (x : X) (xs ys : List X) → AllAbove R x xs → SomeOf xs ys → AllAbove R x ys
  some_above R x [] ys a h = subst (λ (zs : List X). AllAbove R x zs) (sym h) tt
  some_above R x (y ∷ xs) ys a h = elim h [
    | inl k ↦ some_above R x xs ys a.1 k
    | inr k ↦ subst (λ (zs : List X). AllAbove R x zs) (sym k.1) (a.0, some_above R x xs k.0 a.1 k.2)
  ]

  pub some_ascending : (R : X → X → Ordering) (xs ys : List X) → IsAscending R xs → SomeOf xs ys → IsAscending R ys
  some_ascending R [] ys a h = subst (λ (zs : List X). IsAscending R zs) (sym h) tt
  some_ascending R (x ∷ xs) ys a h = elim h [
    | inl k ↦ some_ascending R xs ys a.1 k
    | inr k ↦ subst (λ (zs : List X). IsAscending R zs) (sym k.1) (some_above R x xs k.0 a.0 k.2, some_ascending R xs k.0 a.1 k.2)
  ]

  pub some_none : (xs : List X) → SomeOf (take 0 xs) []
  some_none xs = refl

  pub some_next : (xs : List X) (i : ℕ) (t : X) (old new : List X) → i < length xs → t ≡ get_or xs i t → SomeOf (take i xs) old → MayAdd t old new → SomeOf (take (i + 1) xs) new
  some_next xs i t old new l e before step =
      let whole : take (i + 1) xs ≡ take i xs ++ t ∷ [] = take_more xs i t l ∙ ap (λ (z : X). take i xs ++ z ∷ []) (sym e) in
      subst (λ (zs : List X). SomeOf zs new) (sym whole) (elim step [
        | inl k ↦ subst (λ (ys : List X). SomeOf (take i xs ++ t ∷ []) ys) (sym k) (some_skip (take i xs) old t before)
        | inr k ↦ subst (λ (ys : List X). SomeOf (take i xs ++ t ∷ []) ys) (sym k) (some_more (take i xs) old t before)
      ])

  pub some_all : (xs : List X) (i : ℕ) (ys : List X) → length xs ≤ i → SomeOf (take i xs) ys → SomeOf xs ys
  some_all xs i ys l h = subst (λ (zs : List X). SomeOf zs ys) (take_all i xs l) h
