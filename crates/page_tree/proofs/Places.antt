-- Where a key belongs among pages.
use Rattle.std.proofs.Common.{◌≡◌, ℕ, zero, suc, ◌+◌, ◌-◌, ◌<◌, ◌≤◌, List, [], ◌∷◌, ◌++◌, length, get_or, take, drop, refl, subst, ap, arith, true, false}
use Rattle.std.specs.Prelude.{Some}
use Rattle.std.specs.List.Sorted.{IsPartitionedBy, IsPartitionPoint}
use Rattle.std.specs.declared.cmp.Ordering.{Ordering}
use Rattle.std.specs.declared.cmp.Ordering.TheVariants.{Less, Equal, Greater}
use Rattle.std.specs.Ordering.{is_ge}
use Rattle.std.specs.Cmp.{IsTotalOrder}
use Rattle.collections.specs.Ordered.{AllAbove, IsAscending}
use Rattle.page_tree.specs.Blocks.{Block, IsBelow, AreBelow, AllUnder, IsPlace, keys_of, first_of}
use Rattle.page_tree.proofs.Keys.{above-right, ascending-right, under-append, below_through, above_lower, under_first}

pub is_ge-not_less : (c : Ordering) → is_ge c ≡ true → c ≡ Less → ⊥
is_ge-not_less c e l = let k = ap is_ge l in cc (e, k)

pub not_ge-less : (c : Ordering) → is_ge c ≡ false → c ≡ Less
not_ge-less Less e = refl
not_ge-less Equal e = cc
not_ge-less Greater e = cc

pub below-at : {K : Type 0} (h : ℕ) (bs : List (Block K)) (i : ℕ) (d : Block K) → AreBelow h bs → i < length bs → IsBelow h (get_or bs i d)
below-at h [] i d b lt = absurd (omega arith)
below-at h (c ∷ bs) zero d b lt = b.0
below-at h (c ∷ bs) (suc i) d b lt = below-at h bs i d b.1 (omega arith)

pub first-append : {K : Type 0} (ks ls : List K) (k : K) → first_of ks ≡ Some k → first_of (ks ++ ls) ≡ Some k
first-append [] ls k e = cc
first-append (l ∷ ks) ls k e = e

module _ {K : Type 0} (R : K → K → Ordering) where
  above_first : (x k : K) (ks : List K) → first_of ks ≡ Some k → AllAbove R x ks → R x k ≡ Less
  above_first x k [] e a = cc
  above_first x k (l ∷ ks) e a = let same : l ≡ k = cc in subst (λ (w : K). R x w ≡ Less) same a.0

  -- the first key of a page that stands among others is above what they are above
  pub low-above : (x : K) (h : ℕ) (bs : List (Block K)) (i : ℕ) (d : Block K) → AllAbove R x (keys_of bs) → AreBelow h bs → i < length bs → R x (get_or bs i d).low ≡ Less
  low-above x h [] i d a b lt = absurd (omega arith)
  low-above x h (c ∷ bs) zero d a b lt = above_first x c.low (c.page.keys ++ keys_of bs) (first-append c.page.keys (keys_of bs) c.low b.0.first) a
  low-above x h (c ∷ bs) (suc i) d a b lt = low-above x h bs i d (above-right R x c.page.keys (keys_of bs) a) b.1 (omega arith)

  pub first-below : (k : K) (ks ls : List K) → first_of ks ≡ Some k → IsAscending R (ks ++ ls) → AllAbove R k ls
  first-below k [] ls e s = cc
  first-below k (l ∷ ks) ls e s = let same : l ≡ k = cc in subst (λ (w : K). AllAbove R w ls) same (above-right R l ks ls s.0)

module _ {K : Type 0} (R : K → K → Ordering) (o : IsTotalOrder R) where
  -- all keys from one above x on are above x
  pub above_all : (x k : K) (ks : List K) → first_of ks ≡ Some k → IsAscending R ks → R x k ≡ Less → AllAbove R x ks
  above_all x k [] e s h = tt
  above_all x k (l ∷ ks) e s h = let same : k ≡ l = cc in let below = subst (λ (w : K). R x w ≡ Less) same h in (below, above_lower R o x l ks below s.0)

  -- all keys before one that is not above x are below x
  pub under_all : (x k : K) (ks ls : List K) → first_of ls ≡ Some k → IsAscending R (ks ++ ls) → (R x k ≡ Less → ⊥) → AllUnder R x ks
  under_all x k ks [] e s n = cc
  under_all x k ks (l ∷ ls) e s n = under_first R o x l ks ls s (λ p. n (let same : l ≡ k = cc in subst (λ (w : K). R x w ≡ Less) same p))

  under_member : (x : K) (h : ℕ) (ks : List K) (bs : List (Block K)) (i : ℕ) (d : Block K) → IsAscending R (ks ++ keys_of bs) → AreBelow h bs → i < length bs → (R x (get_or bs i d).low ≡ Less → ⊥) → AllUnder R x ks
  under_member x h [] bs i d s b lt n = tt
  under_member x h (k ∷ ks) bs i d s b lt n = (below_through R o x (get_or bs i d).low k n (low-above R k h bs i d (above-right R k ks (keys_of bs) s.0) b lt), under_member x h ks bs i d s.1 b lt n)

  pub before-at : (x : K) (h : ℕ) (bs : List (Block K)) (i : ℕ) (d : Block K) → IsAscending R (keys_of bs) → AreBelow h bs → i < length bs → (R x (get_or bs i d).low ≡ Less → ⊥) → AllUnder R x (keys_of (take i bs))
  before-at x h [] i d s b lt n = absurd (omega arith)
  before-at x h (c ∷ bs) zero d s b lt n = tt
  before-at x h (c ∷ bs) (suc i) d s b lt n = under-append R x c.page.keys (keys_of (take i bs)) (under_member x h c.page.keys bs i d s b.1 (omega arith) n) (before-at x h bs i d (ascending-right R c.page.keys (keys_of bs) s) b.1 (omega arith) n)

  after-at : (x : K) (h : ℕ) (bs : List (Block K)) (i : ℕ) → IsAscending R (keys_of bs) → AreBelow h bs → ((d : Block K) → i < length bs → R x (get_or bs i d).low ≡ Less) → AllAbove R x (keys_of (drop i bs))
  after-at x h [] zero s b f = tt
  after-at x h [] (suc i) s b f = tt
  after-at x h (c ∷ bs) zero s b f = above_all x c.low (c.page.keys ++ keys_of bs) (first-append c.page.keys (keys_of bs) c.low b.0.first) s (f c (omega arith))
  after-at x h (c ∷ bs) (suc i) s b f = after-at x h bs i (ascending-right R c.page.keys (keys_of bs) s) b.1 (λ d lt. f d (omega arith))

  -- the pages whose first key is not above x come first
  pub lows-partitioned : (x : K) (h : ℕ) (bs : List (Block K)) → IsAscending R (keys_of bs) → AreBelow h bs → IsPartitionedBy (λ b. is_ge (R x b.low)) bs
  lows-partitioned x h [] s b i j d le lt e = absurd (omega arith)
  lows-partitioned x h (c ∷ bs) s b zero zero d le lt e = e
  lows-partitioned x h (c ∷ bs) s b zero (suc j) d le lt e = ap is_ge (below_through R o x (get_or bs j d).low c.low (is_ge-not_less (R x (get_or bs j d).low) e) (low-above R c.low h bs j d (first-below R c.low c.page.keys (keys_of bs) b.0.first s) b.1 (omega arith)))
  lows-partitioned x h (c ∷ bs) s b (suc i) zero d le lt e = absurd (omega arith)
  lows-partitioned x h (c ∷ bs) s b (suc i) (suc j) d le lt e = lows-partitioned x h bs (ascending-right R c.page.keys (keys_of bs) s) b.1 i j d (omega arith) (omega arith) e

  module _ (x : K) (h : ℕ) (bs : List (Block K)) (s : IsAscending R (keys_of bs)) (b : AreBelow h bs) (some : 0 < length bs) where
    placed-at : (i j : ℕ) → i < length bs → j ≡ i + 1 → ((d : Block K) → 0 < i → R x (get_or bs i d).low ≡ Less → ⊥) → ((d : Block K) → j < length bs → R x (get_or bs j d).low ≡ Less) → IsPlace R x bs i
    placed-at i j lt e f f' = record { within = lt; before = front i lt f; after = subst (λ (k : ℕ). AllAbove R x (keys_of (drop k bs))) e (after-at x h bs j s b f') }
      where
        front : (i : ℕ) → i < length bs → ((d : Block K) → 0 < i → R x (get_or bs i d).low ≡ Less → ⊥) → AllUnder R x (keys_of (take i bs))
        front zero lt f = tt
        front (suc i) lt f = before-at x h bs (suc i) (head bs lt) s b lt (λ p. f (head bs lt) (omega arith) p)
          where
            head : (cs : List (Block K)) → suc i < length cs → Block K
            head [] lt = absurd (omega arith)
            head (c ∷ cs) lt = c

    pub placed : (p : ℕ) → p ≤ length bs → IsPartitionPoint (λ c. is_ge (R x c.low) ≡ true) (λ c. is_ge (R x c.low) ≡ false) bs p → IsPlace R x bs (p - 1)
    placed zero le q = placed-at 0 1 some refl (λ d lt l. absurd (omega arith)) (λ d lt. not_ge-less (R x (get_or bs 1 d).low) (q.1 1 d (omega arith) lt))
    placed (suc p) le q = subst (λ (i : ℕ). IsPlace R x bs i) (suc_less p) (placed-at p (suc p) (omega arith) (omega arith) (λ d lt. is_ge-not_less (R x (get_or bs p d).low) (q.0 p d (omega arith) (omega arith))) (λ d lt. not_ge-less (R x (get_or bs (suc p) d).low) (q.1 (suc p) d (omega arith) lt)))
      where
        suc_less : (n : ℕ) → n ≡ suc n - 1
        suc_less n = omega arith
