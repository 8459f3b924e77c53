-- What a search in ascending keys found.
use Rattle.std.proofs.Common.{◌≡◌, ◌∙◌, ℕ, zero, suc, ◌<◌, ◌≤◌, List, [], ◌∷◌, ◌++◌, length, get_or, take, drop, refl, sym, ap, arith, true, false, take-append-drop}
use Rattle.std.specs.Prelude.{◌||◌, insert, remove}
use Rattle.std.specs.List.{HoldsAt}
use Rattle.std.specs.List.Sorted.{IsNonDecreasingBy, IsPartitionPoint}
use Rattle.std.specs.declared.cmp.Ordering.{Ordering}
use Rattle.std.specs.declared.cmp.Ordering.TheVariants.{Less, Equal, Greater}
use Rattle.std.specs.Ordering.{match_ordering, ordering_index, is_eq}
use Rattle.std.specs.Cmp.{IsTotalOrder, tied_back}
use Rattle.collections.specs.Ordered.{AllAbove, IsAscending, with_item, without_item, has_item}
use Rattle.page_tree.specs.Blocks.{AllUnder}
use Rattle.page_tree.proofs.Keys.{turned, turned_back, below_through, with-under, with-above, without-under, without-above, has-under, has-none}

module _ {X : Type 0} (R : X → X → Ordering) (o : IsTotalOrder R) where
  above_at : (x : X) (ks : List X) (j : ℕ) (d : X) → AllAbove R x ks → j < length ks → R x (get_or ks j d) ≡ Less
  above_at x [] j d a lt = absurd (omega arith)
  above_at x (k ∷ ks) zero d a lt = a.0
  above_at x (k ∷ ks) (suc j) d a lt = above_at x ks j d a.1 (omega arith)

  under_of : (x : X) (ks : List X) (i : ℕ) → ((k : ℕ) (d : X) → k < i → R (get_or ks k d) x ≡ Less) → i ≤ length ks → AllUnder R x (take i ks)
  under_of x ks zero f lt = tt
  under_of x [] (suc i) f lt = absurd (omega arith)
  under_of x (k ∷ ks) (suc i) f lt = (turned_back R o k x (f 0 k (omega arith)), under_of x ks i (λ j d h. f (suc j) d (omega arith)) (omega arith))

  above_of : (x : X) (ks : List X) (i : ℕ) → ((k : ℕ) (d : X) → i ≤ k → k < length ks → R (get_or ks k d) x ≡ Greater) → AllAbove R x (drop i ks)
  above_of x [] zero f = tt
  above_of x [] (suc i) f = tt
  above_of x (k ∷ ks) zero f = (turned R o k x (f 0 k (omega arith) (omega arith)), above_of x ks zero (λ j d h l. f (suc j) d (omega arith) (omega arith)))
  above_of x (k ∷ ks) (suc i) f = above_of x ks i (λ j d h l. f (suc j) d (omega arith) (omega arith))

  -- how keys stand to x never falls along ascending keys
  index_rises : (x a b : X) → R a b ≡ Less → ordering_index (R a x) ≤ ordering_index (R b x)
  index_rises x a b h = elim (R b x) as (λ c. R b x ≡ c → ordering_index (R a x) ≤ ordering_index c) [
    | Less ↦ λ e. let l : ordering_index (R a x) ≡ 0 = ap ordering_index (o.trans a b x h e) in omega arith
    | Equal ↦ λ e. let l : ordering_index (R a x) ≡ 0 = ap ordering_index (turned R o x a (below_through R o x b a (λ p. let q = tied_back o b x e in cc (p, q)) h)) in omega arith
    | Greater ↦ λ e. most (R a x)
  ] refl
    where
      most : (c : Ordering) → ordering_index c ≤ 2
      most Less = omega arith
      most Equal = omega arith
      most Greater = omega arith

  pub rises : (x : X) (ks : List X) → IsAscending R ks → IsNonDecreasingBy (λ y. ordering_index (R y x)) ks
  rises x [] s i j d le lt = absurd (omega arith)
  rises x (k ∷ ks) s zero zero d le lt = omega arith
  rises x (k ∷ ks) s zero (suc j) d le lt = index_rises x k (get_or ks j d) (above_at k ks j d s.0 (omega arith))
  rises x (k ∷ ks) s (suc i) zero d le lt = absurd (omega arith)
  rises x (k ∷ ks) s (suc i) (suc j) d le lt = rises x ks s.1 i j d (omega arith) (omega arith)

  -- where the search found the place of a key that is not there
  module _ (x : X) (ks : List X) (i : ℕ) (le : i ≤ length ks) (p : IsPartitionPoint (λ y. R y x ≡ Less) (λ y. R y x ≡ Greater) ks i) where
    under : AllUnder R x (take i ks)
    under = under_of x ks i (λ k d lt. p.0 k d (omega arith) lt) le

    above : AllAbove R x (drop i ks)
    above = above_of x ks i (λ k d l h. p.1 k d l h)

    parts : take i ks ++ drop i ks ≡ ks
    parts = take-append-drop i ks

    pub with-free : insert ks i x ≡ with_item R x ks
    with-free = sym (ap (with_item R x) (sym parts) ∙ with-under R x (take i ks) (drop i ks) under ∙ ap (λ (t : List X). take i ks ++ t) (with-above R x [] (drop i ks) above))

    pub without-free : without_item R x ks ≡ ks
    without-free = ap (without_item R x) (sym parts) ∙ without-under R x (take i ks) (drop i ks) under ∙ ap (λ (t : List X). take i ks ++ t) (without-above R x [] (drop i ks) above) ∙ parts

    pub has-free : has_item R x ks ≡ false
    has-free = ap (has_item R x) (sym parts) ∙ has-under R o x (take i ks) (drop i ks) under ∙ has-none R o x (drop i ks) above

  -- where the search found the key
  tied : (x y : X) → R y x ≡ Equal → R x y ≡ Equal
  tied x y e = tied_back o y x e

  passed : (x k : X) (ks : List X) (i : ℕ) → AllAbove R k ks → i < length ks → R (get_or ks i k) x ≡ Equal → R x k ≡ Greater
  passed x k ks i a lt e = below_through R o x (get_or ks i k) k (λ p. let q = tied x (get_or ks i k) e in cc (p, q)) (above_at k ks i k a lt)

  pub with-there : (x : X) (ks : List X) (i : ℕ) → IsAscending R ks → i < length ks → HoldsAt (λ y. R y x ≡ Equal) ks i → with_item R x ks ≡ ks
  with-there x [] i s lt e = absurd (omega arith)
  with-there x (k ∷ ks) zero s lt e = ap (λ c. match_ordering c (x ∷ k ∷ ks) (k ∷ ks) (k ∷ with_item R x ks)) (tied x k (e k))
  with-there x (k ∷ ks) (suc i) s lt e = ap (λ c. match_ordering c (x ∷ k ∷ ks) (k ∷ ks) (k ∷ with_item R x ks)) (passed x k ks i s.0 (omega arith) (e k)) ∙ ap (λ (t : List X). k ∷ t) (with-there x ks i s.1 (omega arith) e)

  pub without-there : (x : X) (ks : List X) (i : ℕ) → IsAscending R ks → i < length ks → HoldsAt (λ y. R y x ≡ Equal) ks i → remove ks i ≡ without_item R x ks
  without-there x [] i s lt e = absurd (omega arith)
  without-there x (k ∷ ks) zero s lt e = sym (ap (λ c. match_ordering c (k ∷ ks) ks (k ∷ without_item R x ks)) (tied x k (e k)))
  without-there x (k ∷ ks) (suc i) s lt e = sym (ap (λ c. match_ordering c (k ∷ ks) ks (k ∷ without_item R x ks)) (passed x k ks i s.0 (omega arith) (e k)) ∙ ap (λ (t : List X). k ∷ t) (sym (without-there x ks i s.1 (omega arith) e)))

  pub has-there : (x : X) (ks : List X) (i : ℕ) → i < length ks → HoldsAt (λ y. R y x ≡ Equal) ks i → has_item R x ks ≡ true
  has-there x [] i lt e = absurd (omega arith)
  has-there x (k ∷ ks) zero lt e = ap (λ c. is_eq c || has_item R x ks) (e k)
  has-there x (k ∷ ks) (suc i) lt e = ap (λ t. is_eq (R k x) || t) (has-there x ks i (omega arith) e) ∙ or_true (is_eq (R k x))
    where
      or_true : (b : _) → (b || true) ≡ true
      or_true true = refl
      or_true false = refl
