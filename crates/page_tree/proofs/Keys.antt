-- Ascending keys, and a key beside others that are all below it or all above it.
use Rattle.std.proofs.Common.{◌≡◌, ◌∙◌, List, [], ◌∷◌, ◌++◌, refl, ap, false}
use Rattle.std.specs.Prelude.{◌||◌}
use Rattle.std.specs.declared.cmp.Ordering.{Ordering}
use Rattle.std.specs.declared.cmp.Ordering.TheVariants.{Less, Equal, Greater}
use Rattle.std.specs.Ordering.{ordering_reverse, match_ordering, is_eq}
use Rattle.std.specs.Cmp.{IsTotalOrder}
use Rattle.collections.specs.Ordered.{AllAbove, IsAscending, with_item, without_item, has_item}
use Rattle.page_tree.specs.Blocks.{AllUnder}

module _ {X : Type 0} (R : X → X → Ordering) where
  pub above-append : (x : X) (ks ls : List X) → AllAbove R x ks → AllAbove R x ls → AllAbove R x (ks ++ ls)
  above-append x [] ls a b = b
  above-append x (k ∷ ks) ls a b = (a.0, above-append x ks ls a.1 b)

  pub above-left : (x : X) (ks ls : List X) → AllAbove R x (ks ++ ls) → AllAbove R x ks
  above-left x [] ls a = tt
  above-left x (k ∷ ks) ls a = (a.0, above-left x ks ls a.1)

  pub above-right : (x : X) (ks ls : List X) → AllAbove R x (ks ++ ls) → AllAbove R x ls
  above-right x [] ls a = a
  above-right x (k ∷ ks) ls a = above-right x ks ls a.1

  pub ascending-left : (ks ls : List X) → IsAscending R (ks ++ ls) → IsAscending R ks
  ascending-left [] ls s = tt
  ascending-left (k ∷ ks) ls s = (above-left k ks ls s.0, ascending-left ks ls s.1)

  pub ascending-right : (ks ls : List X) → IsAscending R (ks ++ ls) → IsAscending R ls
  ascending-right [] ls s = s
  ascending-right (k ∷ ks) ls s = ascending-right ks ls s.1

  pub under-append : (x : X) (ks ls : List X) → AllUnder R x ks → AllUnder R x ls → AllUnder R x (ks ++ ls)
  under-append x [] ls a b = b
  under-append x (k ∷ ks) ls a b = (a.0, under-append x ks ls a.1 b)

  pub under-left : (x : X) (ks ls : List X) → AllUnder R x (ks ++ ls) → AllUnder R x ks
  under-left x [] ls a = tt
  under-left x (k ∷ ks) ls a = (a.0, under-left x ks ls a.1)

  pub under-right : (x : X) (ks ls : List X) → AllUnder R x (ks ++ ls) → AllUnder R x ls
  under-right x [] ls a = a
  under-right x (k ∷ ks) ls a = under-right x ks ls a.1

  pub with-under : (x : X) (ks ls : List X) → AllUnder R x ks → with_item R x (ks ++ ls) ≡ ks ++ with_item R x ls
  with-under x [] ls u = refl
  with-under x (k ∷ ks) ls u =
      ap (λ c. match_ordering c (x ∷ k ∷ (ks ++ ls)) (k ∷ (ks ++ ls)) (k ∷ with_item R x (ks ++ ls))) u.0 ∙ ap (λ (t : List X). k ∷ t) (with-under x ks ls u.1)

  pub with-above : (x : X) (ks ls : List X) → AllAbove R x ls → with_item R x (ks ++ ls) ≡ with_item R x ks ++ ls
  with-above x [] [] a = refl
  with-above x [] (l ∷ ls) a = ap (λ c. match_ordering c (x ∷ l ∷ ls) (l ∷ ls) (l ∷ with_item R x ls)) a.0
  with-above x (k ∷ ks) ls a = elim (R x k) as (λ c. match_ordering c (x ∷ k ∷ (ks ++ ls)) (k ∷ (ks ++ ls)) (k ∷ with_item R x (ks ++ ls)) ≡ match_ordering c (x ∷ k ∷ ks) (k ∷ ks) (k ∷ with_item R x ks) ++ ls) [
    | Less ↦ refl
    | Equal ↦ refl
    | Greater ↦ ap (λ (t : List X). k ∷ t) (with-above x ks ls a)
  ]

  pub without-under : (x : X) (ks ls : List X) → AllUnder R x ks → without_item R x (ks ++ ls) ≡ ks ++ without_item R x ls
  without-under x [] ls u = refl
  without-under x (k ∷ ks) ls u =
      ap (λ c. match_ordering c (k ∷ (ks ++ ls)) (ks ++ ls) (k ∷ without_item R x (ks ++ ls))) u.0 ∙ ap (λ (t : List X). k ∷ t) (without-under x ks ls u.1)

  pub without-above : (x : X) (ks ls : List X) → AllAbove R x ls → without_item R x (ks ++ ls) ≡ without_item R x ks ++ ls
  without-above x [] [] a = refl
  without-above x [] (l ∷ ls) a = ap (λ c. match_ordering c (l ∷ ls) ls (l ∷ without_item R x ls)) a.0
  without-above x (k ∷ ks) ls a = elim (R x k) as (λ c. match_ordering c (k ∷ (ks ++ ls)) (ks ++ ls) (k ∷ without_item R x (ks ++ ls)) ≡ match_ordering c (k ∷ ks) ks (k ∷ without_item R x ks) ++ ls) [
    | Less ↦ refl
    | Equal ↦ refl
    | Greater ↦ ap (λ (t : List X). k ∷ t) (without-above x ks ls a)
  ]

module _ {X : Type 0} (R : X → X → Ordering) (o : IsTotalOrder R) where
  pub turned : (x y : X) → R x y ≡ Greater → R y x ≡ Less
  turned x y h = o.antisymm y x ∙ ap ordering_reverse h

  pub turned_back : (x y : X) → R x y ≡ Less → R y x ≡ Greater
  turned_back x y h = o.antisymm y x ∙ ap ordering_reverse h

  -- what is below a key that is not above x is below x
  pub below_through : (x l a : X) → (R x l ≡ Less → ⊥) → R a l ≡ Less → R x a ≡ Greater
  below_through x l a n h = elim (R x l) as (λ c. R x l ≡ c → R x a ≡ Greater) [
    | Less ↦ λ e. absurd (n e)
    | Equal ↦ λ e. o.congr x l a e ∙ turned_back a l h
    | Greater ↦ λ e. turned_back a x (o.trans a l x h (turned x l e))
  ] refl

  pub above_lower : (x y : X) (ks : List X) → R x y ≡ Less → AllAbove R y ks → AllAbove R x ks
  above_lower x y [] h a = tt
  above_lower x y (k ∷ ks) h a = (o.trans x y k h a.0, above_lower x y ks h a.1)

  -- what stands before a key that is not above x is below x
  pub under_first : (x l : X) (ks ls : List X) → IsAscending R (ks ++ (l ∷ ls)) → (R x l ≡ Less → ⊥) → AllUnder R x ks
  under_first x l [] ls s n = tt
  under_first x l (k ∷ ks) ls s n = (below_through x l k n (above-right R k ks (l ∷ ls) s.0).0, under_first x l ks ls s.1 n)

  pub has-under : (x : X) (ks ls : List X) → AllUnder R x ks → has_item R x (ks ++ ls) ≡ has_item R x ls
  has-under x [] ls u = refl
  has-under x (k ∷ ks) ls u = ap (λ c. is_eq c || has_item R x (ks ++ ls)) (turned x k u.0) ∙ has-under x ks ls u.1

  pub has-none : (x : X) (ls : List X) → AllAbove R x ls → has_item R x ls ≡ false
  has-none x [] a = refl
  has-none x (l ∷ ls) a = ap (λ c. is_eq c || has_item R x ls) (turned_back x l a.0) ∙ has-none x ls a.1

  pub has-above : (x : X) (ks ls : List X) → AllAbove R x ls → has_item R x (ks ++ ls) ≡ has_item R x ks
  has-above x [] ls a = has-none x ls a
  has-above x (k ∷ ks) ls a = ap (λ t. is_eq (R k x) || t) (has-above x ks ls a)
