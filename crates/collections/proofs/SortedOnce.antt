-- A list that is sorted, without what comes twice, lists its items.
use Rattle.std.proofs.Common.{◌≡◌, Bool, List, [], ◌∷◌, true, refl, sym, subst}
use Rattle.std.specs.Prelude.{IsPermutation, IsSorted}
use Rattle.std.specs.List.{Contains, AllByRecursion, dedup}
use Rattle.std.specs.List.Sorted.{IsStrictlySortedBy}
use Rattle.std.specs.List.Retain.{IsFiltered, DiffersFromLast}
use Rattle.std.specs.declared.cmp.Ordering.{Ordering}
use Rattle.std.specs.declared.cmp.Ordering.TheVariants.{Less, Equal, Greater}
use Rattle.std.specs.Ordering.{eq_by_cmp, is_eq}
use Rattle.std.specs.Cmp.{IsTotalOrder, eq_by_cmp_equiv}
use Rattle.std.proofs.lemmas.List.Filters.{dedup_is}
use Rattle.std.proofs.lemmas.List.Kept.{IsStrictlySortedBy-dedup, Contains-dedup, Contains-from_dedup}
use Rattle.std.proofs.lemmas.List.Sorted.{Contains-permutation, IsPermutation-sym}
use Rattle.collections.specs.Ordered.{AllAbove, IsAscending}
use Rattle.collections.specs.Listings.{IsListing}

above : {X : Type 0} → (R : X → X → Ordering) (x : X) (ys : List X) → AllByRecursion (λ y. R x y ≡ Less) ys → AllAbove R x ys
above R x [] a = tt
above R x (y ∷ ys) a = (a.0, above R x ys a.1)

ascending : {X : Type 0} → (R : X → X → Ordering) (xs : List X) → IsStrictlySortedBy R xs → IsAscending R xs
unfolding IsStrictlySortedBy
ascending R [] s = tt
ascending R (x ∷ xs) s = (above R x xs s.0, ascending R xs s.1)

-- items that tie by their order are one
of_order : (o : Ordering) → is_eq o ≡ true → o ≡ Equal
of_order Less h = cc
of_order Equal h = refl
of_order Greater h = cc

module _ {X : Type 0} (R : X → X → Ordering) (total : IsTotalOrder R) (exact : (x y : X) → R x y ≡ Equal → x ≡ y) where
  same : (x y : X) → eq_by_cmp R x y ≡ true → x ≡ y
  same x y h = exact x y (of_order (R x y) h)

  listed : (xs ys zs : List X) → IsPermutation xs ys → IsSorted R ys → IsFiltered (DiffersFromLast (eq_by_cmp R)) [] ys zs → IsListing R (Contains xs) zs
  listed xs ys zs p s f =
      let E : X → X → Bool = eq_by_cmp R in
      let is : zs ≡ dedup E ys = dedup_is E ys zs f in
      let strict = IsStrictlySortedBy-dedup total {E = E} (λ x y. refl) ys s in
      record {
        ascending = subst (λ (vs : List X). IsAscending R vs) (sym is) (ascending R (dedup E ys) strict);
        members = λ w. (
          λ c. Contains-permutation ys xs w (IsPermutation-sym xs ys p) (Contains-from_dedup E ys w (subst (λ (vs : List X). Contains vs w) is c)),
          λ c. subst (λ (vs : List X). Contains vs w) (sym is) (Contains-dedup (eq_by_cmp_equiv total) same ys w (Contains-permutation xs ys w p c)),
        );
      }

  -- where the list is deduplicated by an equality that agrees with the order
  pub sorted_listing : (E : X → X → Bool) → ((x y : X) → E x y ≡ eq_by_cmp R x y) → (xs ys zs : List X) → IsPermutation xs ys → IsSorted R ys → IsFiltered (DiffersFromLast E) [] ys zs → IsListing R (Contains xs) zs
  sorted_listing E agrees xs ys zs p s f =
      let e : E ≡ eq_by_cmp R = λ i x y. agrees x y i in
      listed xs ys zs p s (subst (λ (F : X → X → Bool). IsFiltered (DiffersFromLast F) [] ys zs) e f)
