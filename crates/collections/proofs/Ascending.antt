-- Sets stay in order.
use Rattle.std.proofs.Common.{◌≡◌, List, [], ◌∷◌, refl, ◌∙◌, ap}
use Rattle.std.specs.declared.cmp.Ordering.{Ordering}
use Rattle.std.specs.declared.cmp.Ordering.TheVariants.{Less, Equal, Greater}
use Rattle.std.specs.Ordering.{match_ordering, ordering_reverse}
use Rattle.std.specs.Cmp.{IsTotalOrder}
use Rattle.collections.specs.Ordered.{AllAbove, IsAscending, with_item, without_item}

module _ {X : Type 0} {R : X → X → Ordering} (o : IsTotalOrder R) where
  above_lower : (x y : X) (zs : List X) → R x y ≡ Less → AllAbove R y zs → AllAbove R x zs
  above_lower x y [] h a = tt
  above_lower x y (z ∷ zs) h a = (o.trans x y z h a.0, above_lower x y zs h a.1)

  AllAbove-with_item : (x y : X) (zs : List X) → R x y ≡ Less → AllAbove R x zs → AllAbove R x (with_item R y zs)
  AllAbove-with_item x y [] h a = (h, tt)
  AllAbove-with_item x y (z ∷ zs) h a = elim (R y z) as (λ c. AllAbove R x (match_ordering c (y ∷ z ∷ zs) (z ∷ zs) (z ∷ with_item R y zs))) [
    | Less ↦ (h, a)
    | Equal ↦ a
    | Greater ↦ (a.0, AllAbove-with_item x y zs h a.1)
  ]

  AllAbove-without_item : (x y : X) (zs : List X) → AllAbove R x zs → AllAbove R x (without_item R y zs)
  AllAbove-without_item x y [] a = tt
  AllAbove-without_item x y (z ∷ zs) a = elim (R y z) as (λ c. AllAbove R x (match_ordering c (z ∷ zs) zs (z ∷ without_item R y zs))) [
    | Less ↦ a
    | Equal ↦ a.1
    | Greater ↦ (a.0, AllAbove-without_item x y zs a.1)
  ]

  turned : (x y : X) → R x y ≡ Greater → R y x ≡ Less
  turned x y h = o.antisymm y x ∙ ap ordering_reverse h

  pub IsAscending-with_item : (x : X) (ys : List X) → IsAscending R ys → IsAscending R (with_item R x ys)
  IsAscending-with_item x [] a = (tt, tt)
  IsAscending-with_item x (y ∷ ys) a = elim (R x y) as (λ c. R x y ≡ c → IsAscending R (match_ordering c (x ∷ y ∷ ys) (y ∷ ys) (y ∷ with_item R x ys))) [
    | Less ↦ λ h. ((h, above_lower x y ys h a.0), a)
    | Equal ↦ λ h. a
    | Greater ↦ λ h. (AllAbove-with_item y x ys (turned x y h) a.0, IsAscending-with_item x ys a.1)
  ] refl

  pub IsAscending-without_item : (x : X) (ys : List X) → IsAscending R ys → IsAscending R (without_item R x ys)
  IsAscending-without_item x [] a = tt
  IsAscending-without_item x (y ∷ ys) a = elim (R x y) as (λ c. IsAscending R (match_ordering c (y ∷ ys) ys (y ∷ without_item R x ys))) [
    | Less ↦ a
    | Equal ↦ a.1
    | Greater ↦ (AllAbove-without_item y x ys a.0, IsAscending-without_item x ys a.1)
  ]
