-- What a reading reaches: the keys from one on, up to another, and the first at which an order is not Less.
use Rattle.std.proofs.Common.{◌≡◌, ◌∙◌, ℕ, zero, suc, ◌-◌, ◌<◌, ◌≤◌, Bool, List, [], ◌∷◌, ◌++◌, length, get_or, drop, refl, sym, subst, ap, arith, true, false, inl, inr}
use Rattle.std.specs.Prelude.{◌⊎◌, ◌&&◌, None, Some, Result, Ok, Err, is_ok, filter, cond}
use Rattle.std.specs.List.Sorted.{IsPartitionedBy, IsPartitionPoint, IsSearchInRange, IsBinarySearchResult}
use Rattle.std.specs.declared.cmp.Ordering.{Ordering}
use Rattle.std.specs.declared.cmp.Ordering.TheVariants.{Less, Equal, Greater}
use Rattle.std.specs.Ordering.{match_ordering, MatchOrdering, is_lt, is_ge}
use Rattle.std.specs.Cmp.{IsTotalOrder}
use Rattle.collections.specs.Ordered.{AllAbove, IsAscending, has_item}
use Rattle.page_tree.specs.Blocks.{Block, AreBelow, keys_of, first_of}
use Rattle.page_tree.specs.Reading.{AllReached, IsRising, first_reached, is_within}
use Rattle.page_tree.proofs.Found.{rises, has-there, has-free}
use Rattle.page_tree.proofs.Places.{first-append}

pub lt-less : (c : Ordering) → is_lt c ≡ true → c ≡ Less
lt-less Less e = refl
lt-less Equal e = cc
lt-less Greater e = cc

pub not_lt-not_less : (c : Ordering) → is_lt c ≡ false → c ≡ Less → ⊥
not_lt-not_less c e l = let k = ap is_lt l in cc (e, k)

lt-or_not : (c : Ordering) → (c ≡ Less) ⊎ (c ≡ Less → ⊥)
lt-or_not Less = inl refl
lt-or_not Equal = inr (λ e. cc)
lt-or_not Greater = inr (λ e. cc)

pub filter-append : {X : Type 0} (p : X → Bool) (ks ls : List X) → filter p (ks ++ ls) ≡ filter p ks ++ filter p ls
filter-append p [] ls = refl
filter-append {X} p (k ∷ ks) ls = elim (p k) as (λ b. cond b (k ∷ filter p (ks ++ ls)) (filter p (ks ++ ls)) ≡ cond b (k ∷ filter p ks) (filter p ks) ++ filter p ls) [
  | true ↦ ap (λ (t : List X). k ∷ t) (filter-append p ks ls)
  | false ↦ filter-append p ks ls
]

module _ {K : Type 0} (R : K → K → Ordering) (o : IsTotalOrder R) where
  pub found-result : (x : K) (ks : List K) (r : Result ℕ ℕ) → IsAscending R ks → IsSearchInRange r (length ks) → IsBinarySearchResult (λ y. R y x) ks r → is_ok r ≡ has_item R x ks
  found-result x ks (Ok i) s lt p = sym (has-there R o x ks i lt p)
  found-result x ks (Err i) s le p = sym (has-free R o x ks i le (p (rises R o x ks s)))

  none-at : (from to k : K) (ks : List K) → (R k to ≡ Less → ⊥) → filter (is_within R from to) (k ∷ ks) ≡ filter (is_within R from to) ks
  none-at from to k ks n = elim (R k to) as (λ c. R k to ≡ c → cond (is_ge (R k from) && is_lt c) (k ∷ filter (is_within R from to) ks) (filter (is_within R from to) ks) ≡ filter (is_within R from to) ks) [
    | Less ↦ λ e. absurd (n e)
    | Equal ↦ λ e. ap (λ b. cond b (k ∷ filter (is_within R from to) ks) (filter (is_within R from to) ks)) (and_false (is_ge (R k from)))
    | Greater ↦ λ e. ap (λ b. cond b (k ∷ filter (is_within R from to) ks) (filter (is_within R from to) ks)) (and_false (is_ge (R k from)))
  ] refl
    where
      and_false : (b : Bool) → (b && false) ≡ false
      and_false true = refl
      and_false false = refl

  pub none-beyond : (from to : K) (ks : List K) → AllReached (λ k. R k to) ks → filter (is_within R from to) ks ≡ []
  none-beyond from to [] u = refl
  none-beyond from to (k ∷ ks) u = none-at from to k ks u.0 ∙ none-beyond from to ks u.1

  pub reached-above : (to k : K) (ks : List K) → AllAbove R k ks → (R k to ≡ Less → ⊥) → AllReached (λ w. R w to) ks
  reached-above to k [] a n = tt
  reached-above to k (l ∷ ks) a n = (λ e. n (o.trans k l to a.0 e), reached-above to k ks a.1 n)

module _ {K : Type 0} (f : K → Ordering) where
  reached-member : (h : ℕ) (ks : List K) (bs : List (Block K)) (i : ℕ) (d : Block K) → AllReached f (ks ++ keys_of bs) → AreBelow h bs → i < length bs → f (get_or bs i d).low ≡ Less → ⊥
  reached-member h (k ∷ ks) bs i d a b lt e = reached-member h ks bs i d a.1 b lt e
  reached-member h [] [] i d a b lt e = absurd (omega arith)
  reached-member h [] (c ∷ bs) zero d a b lt e = reached-first c.low (c.page.keys ++ keys_of bs) (first-append c.page.keys (keys_of bs) c.low b.0.first) a e
    where
      reached-first : (l : K) (ks : List K) → first_of ks ≡ Some l → AllReached f ks → f l ≡ Less → ⊥
      reached-first l [] p a e = cc
      reached-first l (k ∷ ks) p a e = let same : l ≡ k = cc in a.0 (subst (λ (w : K). f w ≡ Less) same e)
  reached-member h [] (c ∷ bs) (suc i) d a b lt e = reached-member h c.page.keys bs i d a b.1 (omega arith) e

  reached-rising : (ks : List K) → AllReached f ks → IsRising f ks
  reached-rising [] a = tt
  reached-rising (k ∷ ks) a = elim (f k) as (λ c. f k ≡ c → MatchOrdering c (IsRising f ks) (AllReached f ks) (AllReached f ks)) [
    | Less ↦ λ e. absurd (a.0 e)
    | Equal ↦ λ e. a.1
    | Greater ↦ λ e. a.1
  ] refl

  rising-tail : (k : K) (ks : List K) → IsRising f (k ∷ ks) → IsRising f ks
  rising-tail k ks r = elim (f k) as (λ c. MatchOrdering c (IsRising f ks) (AllReached f ks) (AllReached f ks) → IsRising f ks) [
    | Less ↦ λ s. s
    | Equal ↦ λ s. reached-rising ks s
    | Greater ↦ λ s. reached-rising ks s
  ] r

  -- once a key is reached, all later ones are
  rising-from : (k : K) (ks : List K) → IsRising f (k ∷ ks) → (f k ≡ Less → ⊥) → AllReached f ks
  rising-from k ks r n = elim (f k) as (λ c. f k ≡ c → MatchOrdering c (IsRising f ks) (AllReached f ks) (AllReached f ks) → AllReached f ks) [
    | Less ↦ λ e s. absurd (n e)
    | Equal ↦ λ e s. s
    | Greater ↦ λ e s. s
  ] refl r

  pub rising-right : (ks ls : List K) → IsRising f (ks ++ ls) → IsRising f ls
  rising-right [] ls r = r
  rising-right (k ∷ ks) ls r = rising-right ks ls (rising-tail k (ks ++ ls) r)

  reached-left : (ks ls : List K) → AllReached f (ks ++ ls) → AllReached f ks
  reached-left [] ls a = tt
  reached-left (k ∷ ks) ls a = (a.0, reached-left ks ls a.1)

  pub rising-left : (ks ls : List K) → IsRising f (ks ++ ls) → IsRising f ks
  rising-left [] ls r = tt
  rising-left (k ∷ ks) ls r = elim (f k) as (λ c. MatchOrdering c (IsRising f (ks ++ ls)) (AllReached f (ks ++ ls)) (AllReached f (ks ++ ls)) → MatchOrdering c (IsRising f ks) (AllReached f ks) (AllReached f ks)) [
    | Less ↦ λ s. rising-left ks ls s
    | Equal ↦ λ s. reached-left ks ls s
    | Greater ↦ λ s. reached-left ks ls s
  ] r

  -- the first reached of two lists
  pub first-of-none : (ks ls : List K) → first_reached f ks ≡ None → first_reached f (ks ++ ls) ≡ first_reached f ls
  first-of-none [] ls e = refl
  first-of-none (k ∷ ks) ls e = elim (f k) as (λ c. match_ordering c (first_reached f ks) (Some k) (Some k) ≡ None → match_ordering c (first_reached f (ks ++ ls)) (Some k) (Some k) ≡ first_reached f ls) [
    | Less ↦ λ n. first-of-none ks ls n
    | Equal ↦ λ n. absurd (cc n)
    | Greater ↦ λ n. absurd (cc n)
  ] e

  pub first-of-some : (ks ls : List K) (w : K) → first_reached f ks ≡ Some w → first_reached f (ks ++ ls) ≡ Some w
  first-of-some [] ls w e = cc
  first-of-some (k ∷ ks) ls w e = elim (f k) as (λ c. match_ordering c (first_reached f ks) (Some k) (Some k) ≡ Some w → match_ordering c (first_reached f (ks ++ ls)) (Some k) (Some k) ≡ Some w) [
    | Less ↦ λ n. first-of-some ks ls w n
    | Equal ↦ λ n. n
    | Greater ↦ λ n. n
  ] e

  -- keys of which none is reached before the page whose first key is not
  passed-by : (h : ℕ) (ks : List K) (bs : List (Block K)) (i : ℕ) (d : Block K) (ls : List K) → IsRising f (ks ++ keys_of bs) → AreBelow h bs → i < length bs → f (get_or bs i d).low ≡ Less → first_reached f (ks ++ ls) ≡ first_reached f ls
  passed-by h [] bs i d ls r b lt e = refl
  passed-by h (k ∷ ks) bs i d ls r b lt e = elim (f k) as (λ c. f k ≡ c → match_ordering c (first_reached f (ks ++ ls)) (Some k) (Some k) ≡ first_reached f ls) [
    | Less ↦ λ q. passed-by h ks bs i d ls (rising-tail k (ks ++ keys_of bs) r) b lt e
    | Equal ↦ λ q. absurd (reached-member h ks bs i d (rising-from k (ks ++ keys_of bs) r (λ p. cc (p, q))) b lt e)
    | Greater ↦ λ q. absurd (reached-member h ks bs i d (rising-from k (ks ++ keys_of bs) r (λ p. cc (p, q))) b lt e)
  ] refl

  passed : (h : ℕ) (bs : List (Block K)) (i : ℕ) (d : Block K) → IsRising f (keys_of bs) → AreBelow h bs → i < length bs → f (get_or bs i d).low ≡ Less → first_reached f (keys_of bs) ≡ first_reached f ((get_or bs i d).page.keys ++ keys_of (drop (suc i) bs))
  passed h [] i d r b lt e = absurd (omega arith)
  passed h (c ∷ bs) zero d r b lt e = refl
  passed h (c ∷ bs) (suc i) d r b lt e = passed-by h c.page.keys bs i d (keys_of bs) r b.1 (omega arith) e ∙ passed h bs i d (rising-right c.page.keys (keys_of bs) r) b.1 (omega arith) e

  pub rising-at : (h : ℕ) (bs : List (Block K)) (i : ℕ) (d : Block K) → IsRising f (keys_of bs) → AreBelow h bs → i < length bs → IsRising f (get_or bs i d).page.keys
  rising-at h [] i d r b lt = absurd (omega arith)
  rising-at h (c ∷ bs) zero d r b lt = rising-left c.page.keys (keys_of bs) r
  rising-at h (c ∷ bs) (suc i) d r b lt = rising-at h bs i d (rising-right c.page.keys (keys_of bs) r) b.1 (omega arith)

  first-beyond : (h : ℕ) (bs : List (Block K)) (i : ℕ) → AreBelow h bs → ((d : Block K) → i < length bs → f (get_or bs i d).low ≡ Less → ⊥) → first_reached f (keys_of (drop i bs)) ≡ first_of (keys_of (drop i bs))
  first-beyond h [] zero b n = refl
  first-beyond h [] (suc i) b n = refl
  first-beyond h (c ∷ bs) zero b n = at-once (c.page.keys ++ keys_of bs) (first-append c.page.keys (keys_of bs) c.low b.0.first)
    where
      at-once : (ks : List K) → first_of ks ≡ Some c.low → first_reached f ks ≡ first_of ks
      at-once [] e = refl
      at-once (k ∷ ks) e = let same : k ≡ c.low = cc in elim (f k) as (λ q. f k ≡ q → match_ordering q (first_reached f ks) (Some k) (Some k) ≡ Some k) [
        | Less ↦ λ p. absurd (n c (omega arith) (subst (λ (w : K). f w ≡ Less) same p))
        | Equal ↦ λ p. refl
        | Greater ↦ λ p. refl
      ] refl
  first-beyond h (c ∷ bs) (suc i) b n = first-beyond h bs i b.1 (λ d lt. n d (omega arith))

  reached-get : (ks : List K) (i : ℕ) (d : K) → AllReached f ks → i < length ks → f (get_or ks i d) ≡ Less → ⊥
  reached-get [] i d a lt e = absurd (omega arith)
  reached-get (k ∷ ks) zero d a lt e = a.0 e
  reached-get (k ∷ ks) (suc i) d a lt e = reached-get ks i d a.1 (omega arith) e

  pub keys-rising : (ks : List K) → IsRising f ks → IsPartitionedBy (λ k. is_lt (f k)) ks
  keys-rising [] r i j d le lt e = absurd (omega arith)
  keys-rising (k ∷ ks) r zero zero d le lt e = e
  keys-rising (k ∷ ks) r zero (suc j) d le lt e = elim (lt-or_not (f k)) [
    | inl l ↦ ap is_lt l
    | inr n ↦ absurd (reached-get ks j d (rising-from k ks r n) (omega arith) (lt-less (f (get_or ks j d)) e))
  ]
  keys-rising (k ∷ ks) r (suc i) zero d le lt e = absurd (omega arith)
  keys-rising (k ∷ ks) r (suc i) (suc j) d le lt e = keys-rising ks (rising-tail k ks r) i j d (omega arith) (omega arith) e

  pub lows-follow : (h : ℕ) (bs : List (Block K)) → IsRising f (keys_of bs) → AreBelow h bs → IsPartitionedBy (λ b. is_lt (f b.low)) bs
  lows-follow h [] r b i j d le lt e = absurd (omega arith)
  lows-follow h (c ∷ bs) r b zero zero d le lt e = e
  lows-follow h (c ∷ bs) r b zero (suc j) d le lt e = elim (lt-or_not (f c.low)) [
    | inl l ↦ ap is_lt l
    | inr n ↦ absurd (low-member c.page.keys b.0.first r n)
  ]
    where
      low-member : (ks : List K) → first_of ks ≡ Some c.low → IsRising f (ks ++ keys_of bs) → (f c.low ≡ Less → ⊥) → ⊥
      low-member [] p s n = cc
      low-member (k ∷ ks) p s n = let same : k ≡ c.low = cc in reached-member h ks bs j d (rising-from k (ks ++ keys_of bs) s (λ q. n (subst (λ (w : K). f w ≡ Less) same q))) b.1 (omega arith) (lt-less (f (get_or bs j d).low) e)
  lows-follow h (c ∷ bs) r b (suc i) zero d le lt e = absurd (omega arith)
  lows-follow h (c ∷ bs) r b (suc i) (suc j) d le lt e = lows-follow h bs (rising-right c.page.keys (keys_of bs) r) b.1 i j d (omega arith) (omega arith) e

  pub first-at : (ks : List K) (i : ℕ) (k : K) → IsPartitionPoint (λ y. is_lt (f y) ≡ true) (λ y. is_lt (f y) ≡ false) ks i → i < length ks → k ≡ get_or ks i k → first_reached f ks ≡ Some k
  first-at [] i k q lt is = absurd (omega arith)
  first-at (l ∷ ks) zero k q lt is = elim (f l) as (λ c. f l ≡ c → match_ordering c (first_reached f ks) (Some l) (Some l) ≡ Some k) [
    | Less ↦ λ e. absurd (not_lt-not_less (f l) (q.1 0 l (omega arith) lt) e)
    | Equal ↦ λ e. ap Some (sym is)
    | Greater ↦ λ e. ap Some (sym is)
  ] refl
  first-at (l ∷ ks) (suc i) k q lt is = ap (λ c. match_ordering c (first_reached f ks) (Some l) (Some l)) (lt-less (f l) (q.0 0 l (omega arith) (omega arith))) ∙ first-at ks i k (λ j d a b. q.0 (suc j) d (omega arith) (omega arith), λ j d a b. q.1 (suc j) d (omega arith) (omega arith)) (omega arith) is

  pub first-none : (ks : List K) (i : ℕ) → IsPartitionPoint (λ y. is_lt (f y) ≡ true) (λ y. is_lt (f y) ≡ false) ks i → i ≡ length ks → first_reached f ks ≡ None
  first-none [] i q e = refl
  first-none (l ∷ ks) zero q e = absurd (omega arith)
  first-none (l ∷ ks) (suc i) q e = ap (λ c. match_ordering c (first_reached f ks) (Some l) (Some l)) (lt-less (f l) (q.0 0 l (omega arith) (omega arith))) ∙ first-none ks i (λ j d a b. q.0 (suc j) d (omega arith) (omega arith), λ j d a b. q.1 (suc j) d (omega arith) (omega arith)) (omega arith)

  -- what is reached first is below the last page whose first key is not, or the first key of the next
  pub passed-to : (h : ℕ) (bs : List (Block K)) (p : ℕ) (d : Block K) → IsRising f (keys_of bs) → AreBelow h bs → 0 < p → p ≤ length bs → IsPartitionPoint (λ b. is_lt (f b.low) ≡ true) (λ b. is_lt (f b.low) ≡ false) bs p → first_reached f (keys_of bs) ≡ first_reached f ((get_or bs (p - 1) d).page.keys ++ keys_of (drop p bs))
  passed-to h bs zero d r b some le q = absurd (omega arith)
  passed-to h bs (suc p) d r b some le q = passed h bs p d r b (omega arith) (lt-less (f (get_or bs p d).low) (q.0 p d (omega arith) (omega arith))) ∙ ap (λ (i : ℕ). first_reached f ((get_or bs i d).page.keys ++ keys_of (drop (suc p) bs))) (let e : p ≡ suc p - 1 = omega arith in e)

  pub beyond-to : (h : ℕ) (bs : List (Block K)) (p : ℕ) → AreBelow h bs → IsPartitionPoint (λ b. is_lt (f b.low) ≡ true) (λ b. is_lt (f b.low) ≡ false) bs p → first_reached f (keys_of (drop p bs)) ≡ first_of (keys_of (drop p bs))
  beyond-to h bs p b q = first-beyond h bs p b (λ d lt. not_lt-not_less (f (get_or bs p d).low) (q.1 p d (omega arith) lt))

pub first-low : {K : Type 0} (h : ℕ) (bs : List (Block K)) (i : ℕ) (b : Block K) → AreBelow h bs → i < length bs → b ≡ get_or bs i b → first_of (keys_of (drop i bs)) ≡ Some b.low
first-low h [] i b a lt is = absurd (omega arith)
first-low h (c ∷ bs) zero b a lt is = first-append c.page.keys (keys_of bs) c.low a.0.first ∙ ap (λ (e : Block _). Some e.low) (sym is)
first-low h (c ∷ bs) (suc i) b a lt is = first-low h bs i b a.1 (omega arith) is
