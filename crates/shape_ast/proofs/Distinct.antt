-- Lists in which no item stands twice.
use Rattle.std.proofs.Common.{◌≡◌, List, [], ◌∷◌, ◌++◌, map, subst, sym, arith, inl, inr}
use Rattle.std.specs.List.{Contains}
use Rattle.std.proofs.lemmas.List.Elements.{Contains-push_cases}
use Rattle.std.specs.declared.cmp.Ordering.{Ordering}
use Rattle.std.specs.declared.cmp.Ordering.TheVariants.{Less}
use Rattle.std.specs.Cmp.{IsTotalOrder, tied_itself}
use Rattle.collections.specs.Ordered.{AllAbove, IsAscending}
use Rattle.collections.proofs.Members.{has_cases, has_equal, has_tail}
use Rattle.shape_ast.specs.Once.{AreDistinct}

module _ {X : Type 0} where
  pub distinct_push : (xs : List X) (y : X) → AreDistinct xs → (Contains xs y → ⊥) → AreDistinct (xs ++ y ∷ [])
  distinct_push [] y d apart = (λ c. let l = c.1 in omega arith, tt)
  distinct_push (x ∷ xs) y d apart = (
    λ c. elim (Contains-push_cases xs y x c) [ inl k ↦ d.0 k | inr e ↦ apart (has_equal x xs y (sym e)) ],
    distinct_push xs y d.1 (λ c. apart (has_tail x xs y c)),
  )

module _ {X Y : Type 0} (R : Y → Y → Ordering) (total : IsTotalOrder R) (f : X → Y) where
  mapped_below : (y : Y) (xs : List X) (x : X) → AllAbove R y (map f xs) → Contains xs x → R y (f x) ≡ Less
  mapped_below y [] x a c = absurd (let l = c.1 in omega arith)
  mapped_below y (z ∷ xs) x a c = elim (has_cases z xs x c) [ inl e ↦ subst (λ (w : X). R y (f w) ≡ Less) e a.0 | inr d ↦ mapped_below y xs x a.1 d ]

  -- what is said by different things that ascend
  pub distinct_mapped : (xs : List X) → IsAscending R (map f xs) → AreDistinct xs
  distinct_mapped [] a = tt
  distinct_mapped (x ∷ xs) a = (λ c. let k = mapped_below (f x) xs x a.0 c in let e = tied_itself total (f x) in cc (k, e), distinct_mapped xs a.1)
