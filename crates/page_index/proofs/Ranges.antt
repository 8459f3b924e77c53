-- The keys from one up to another, in ascending keys.
use Rattle.std.proofs.Common.{◌≡◌, ◌∙◌, List, [], ◌∷◌, refl, sym, subst, ap, true, false}
use Rattle.std.specs.Prelude.{None, Some, ◌&&◌, filter, cond}
use Rattle.std.specs.declared.cmp.Ordering.{Ordering}
use Rattle.std.specs.declared.cmp.Ordering.TheVariants.{Less, Equal, Greater}
use Rattle.std.specs.Ordering.{match_ordering, MatchOrdering, is_lt, is_gt, is_ge}
use Rattle.std.specs.Cmp.{IsTotalOrder}
use Rattle.std.proofs.lemmas.Cmp.{tied_itself}
use Rattle.std.proofs.lemmas.Option.{same_Some, none-some}
use Rattle.collections.specs.Ordered.{AllAbove, IsAscending}
use Rattle.page_index.specs.Reading.{AllReached, IsRising, first_reached, is_within, keys_above}
use Rattle.page_tree.proofs.Reached.{none-beyond, reached-above}
use Rattle.page_tree.proofs.Above.{all-above}
use Rattle.page_tree.proofs.Keys.{turned}

at_least : (c : Ordering) → (c ≡ Less → ⊥) → is_ge c ≡ true
at_least Less n = absurd (n refl)
at_least Equal n = refl
at_least Greater n = refl

pub not_below : (c : Ordering) → is_ge c ≡ true → c ≡ Less → ⊥
not_below Less t e = cc
not_below Equal t e = cc
not_below Greater t e = cc

over_of : (c : Ordering) → is_gt c ≡ true → c ≡ Greater
over_of Less e = cc
over_of Equal e = cc
over_of Greater e = refl

below_of : (c : Ordering) → is_ge c ≡ false → is_lt c ≡ true
below_of Less e = refl
below_of Equal e = cc
below_of Greater e = cc

not_under : (c : Ordering) → is_lt c ≡ false → c ≡ Less → ⊥
not_under Less t e = cc
not_under Equal t e = cc
not_under Greater t e = cc

no_less : (c : Ordering) → (c ≡ Less → ⊥) → is_lt c ≡ false
no_less Less n = absurd (n refl)
no_less Equal n = refl
no_less Greater n = refl

module _ {K : Type 0} (R : K → K → Ordering) (o : IsTotalOrder R) where
  -- keys that are not below another come last
  pub from-rising : (from : K) (ks : List K) → IsAscending R ks → IsRising (λ k. R k from) ks
  from-rising from [] a = tt
  from-rising from (k ∷ ks) a = elim (R k from) as (λ c. R k from ≡ c → MatchOrdering c (IsRising (λ w. R w from) ks) (AllReached (λ w. R w from) ks) (AllReached (λ w. R w from) ks)) [
    | Less ↦ λ h. from-rising from ks a.1
    | Equal ↦ λ h. reached-above R o from k ks a.0 (λ e. cc (h, e))
    | Greater ↦ λ h. reached-above R o from k ks a.0 (λ e. cc (h, e))
  ] refl

  pub none-left : (to : K) (ks : List K) → AllReached (λ k. R k to) ks → filter (λ k. is_lt (R k to)) ks ≡ []
  none-left to [] r = refl
  none-left to (k ∷ ks) r = ap (λ b. cond b (k ∷ filter (λ w. is_lt (R w to)) ks) (filter (λ w. is_lt (R w to)) ks)) (no_less (R k to) r.0) ∙ none-left to ks r.1

  -- nothing is left from a key that is not below the end
  pub none-from : (to k : K) (ks : List K) → IsAscending R (k ∷ ks) → (R k to ≡ Less → ⊥) → filter (λ w. is_lt (R w to)) (k ∷ ks) ≡ []
  none-from to k ks a n = none-left to (k ∷ ks) (n, reached-above R o to k ks a.0 n)

  over : (x : K) (ks : List K) → AllAbove R x (keys_above R (Some x) ks)
  over x [] = tt
  over x (k ∷ ks) = elim (is_gt (R k x)) as (λ b. is_gt (R k x) ≡ b → AllAbove R x (cond b (k ∷ keys_above R (Some x) ks) (keys_above R (Some x) ks))) [
    | true ↦ λ e. (turned R o k x (over_of (R k x) e), over x ks)
    | false ↦ λ e. over x ks
  ] refl

  -- nothing is left of a key that is not below the end, and of those above it
  pub none-after : (to first : K) (ks : List K) → (R first to ≡ Less → ⊥) → filter (λ w. is_lt (R w to)) (first ∷ keys_above R (Some first) ks) ≡ []
  none-after to first ks n = none-left to (first ∷ keys_above R (Some first) ks) (n, reached-above R o to first (keys_above R (Some first) ks) (over first ks) n)

  pub front-stays : (to first : K) (ks : List K) → is_ge (R first to) ≡ false → first ∷ filter (λ w. is_lt (R w to)) ks ≡ filter (λ w. is_lt (R w to)) (first ∷ ks)
  front-stays to first ks e = sym (ap (λ b. cond b (first ∷ filter (λ w. is_lt (R w to)) ks) (filter (λ w. is_lt (R w to)) ks)) (below_of (R first to) e))

  module _ (from to : K) where
    all-within : (ks : List K) → AllReached (λ k. R k from) ks → filter (is_within R from to) ks ≡ filter (λ k. is_lt (R k to)) ks
    all-within [] r = refl
    all-within (k ∷ ks) r =
        ap (λ b. cond (b && is_lt (R k to)) (k ∷ filter (is_within R from to) ks) (filter (is_within R from to) ks)) (at_least (R k from) r.0)
        ∙ ap (λ (t : List K). cond (is_lt (R k to)) (k ∷ t) t) (all-within ks r.1)

    -- a key that is below the start is left out
    left-out : (k : K) (ks : List K) → R k from ≡ Less → filter (is_within R from to) (k ∷ ks) ≡ filter (is_within R from to) ks
    left-out k ks h = ap (λ c. cond (is_ge c && is_lt (R k to)) (k ∷ filter (is_within R from to) ks) (filter (is_within R from to) ks)) h

    above-first : (first k : K) (ks : List K) → AllAbove R k ks → first_reached (λ w. R w from) ks ≡ Some first → R k first ≡ Less
    above-first first k [] a h = absurd (none-some first h)
    above-first first k (l ∷ ks) a h = elim (R l from) as (λ c. match_ordering c (first_reached (λ w. R w from) ks) (Some l) (Some l) ≡ Some first → R k first ≡ Less) [
      | Less ↦ λ m. above-first first k ks a.1 m
      | Equal ↦ λ m. subst (λ (w : K). R k w ≡ Less) (same_Some l first m) a.0
      | Greater ↦ λ m. subst (λ (w : K). R k w ≡ Less) (same_Some l first m) a.0
    ] h

    here : (k first : K) (ks : List K) → IsAscending R (k ∷ ks) → (R k from ≡ Less → ⊥) → k ≡ first → is_lt (R first to) ≡ true → filter (is_within R from to) (k ∷ ks) ≡ first ∷ filter (λ w. is_lt (R w to)) (keys_above R (Some first) (k ∷ ks))
    here k first ks a n e lt =
        let in_front : is_lt (R k to) ≡ true = ap (λ w. is_lt (R w to)) e ∙ lt in
        let rest : keys_above R (Some k) (k ∷ ks) ≡ ks = ap (λ c. cond (is_gt c) (k ∷ keys_above R (Some k) ks) (keys_above R (Some k) ks)) (tied_itself o k) ∙ all-above R o k ks a.0 in
        ap (λ b. cond (b && is_lt (R k to)) (k ∷ filter (is_within R from to) ks) (filter (is_within R from to) ks)) (at_least (R k from) n)
        ∙ ap (λ b. cond b (k ∷ filter (is_within R from to) ks) (filter (is_within R from to) ks)) in_front
        ∙ ap (λ (t : List K). k ∷ t) (all-within ks (reached-above R o from k ks a.0 n) ∙ ap (filter (λ w. is_lt (R w to))) (sym rest))
        ∙ ap (λ w. w ∷ filter (λ v. is_lt (R v to)) (keys_above R (Some w) (k ∷ ks))) e

    range-first : (first : K) (ks : List K) → IsAscending R ks → first_reached (λ k. R k from) ks ≡ Some first → is_lt (R first to) ≡ true → filter (is_within R from to) ks ≡ first ∷ filter (λ k. is_lt (R k to)) (keys_above R (Some first) ks)
    range-first first [] a h lt = absurd (none-some first h)
    range-first first (k ∷ ks) a h lt = elim (R k from) as (λ c. R k from ≡ c → match_ordering c (first_reached (λ w. R w from) ks) (Some k) (Some k) ≡ Some first → filter (is_within R from to) (k ∷ ks) ≡ first ∷ filter (λ w. is_lt (R w to)) (keys_above R (Some first) (k ∷ ks))) [
      | Less ↦ λ l m.
          let past : keys_above R (Some first) (k ∷ ks) ≡ keys_above R (Some first) ks = ap (λ c. cond (is_gt c) (k ∷ keys_above R (Some first) ks) (keys_above R (Some first) ks)) (above-first first k ks a.0 m) in
          left-out k ks l ∙ range-first first ks a.1 m lt ∙ ap (λ (t : List K). first ∷ filter (λ w. is_lt (R w to)) t) (sym past)
      | Equal ↦ λ l m. here k first ks a (λ e. cc (l, e)) (same_Some k first m) lt
      | Greater ↦ λ l m. here k first ks a (λ e. cc (l, e)) (same_Some k first m) lt
    ] refl h

    range-past : (first : K) (ks : List K) → IsAscending R ks → first_reached (λ k. R k from) ks ≡ Some first → (R first to ≡ Less → ⊥) → filter (is_within R from to) ks ≡ []
    range-past first [] a h n = refl
    range-past first (k ∷ ks) a h n = elim (R k from) as (λ c. R k from ≡ c → match_ordering c (first_reached (λ w. R w from) ks) (Some k) (Some k) ≡ Some first → filter (is_within R from to) (k ∷ ks) ≡ []) [
      | Less ↦ λ l m. left-out k ks l ∙ range-past first ks a.1 m n
      | Equal ↦ λ l m. let p : R k to ≡ Less → ⊥ = subst (λ (w : K). R w to ≡ Less → ⊥) (sym (same_Some k first m)) n in none-beyond R o from to (k ∷ ks) (p, reached-above R o to k ks a.0 p)
      | Greater ↦ λ l m. let p : R k to ≡ Less → ⊥ = subst (λ (w : K). R w to ≡ Less → ⊥) (sym (same_Some k first m)) n in none-beyond R o from to (k ∷ ks) (p, reached-above R o to k ks a.0 p)
    ] refl h

    -- from the first key that is not below the start
    pub range-from : (first : K) (ks : List K) → IsAscending R ks → first_reached (λ k. R k from) ks ≡ Some first → filter (is_within R from to) ks ≡ filter (λ k. is_lt (R k to)) (first ∷ keys_above R (Some first) ks)
    range-from first ks a h = elim (is_lt (R first to)) as (λ b. is_lt (R first to) ≡ b → filter (is_within R from to) ks ≡ filter (λ k. is_lt (R k to)) (first ∷ keys_above R (Some first) ks)) [
      | true ↦ λ e. range-first first ks a h e ∙ sym (ap (λ b. cond b (first ∷ filter (λ w. is_lt (R w to)) (keys_above R (Some first) ks)) (filter (λ w. is_lt (R w to)) (keys_above R (Some first) ks))) e)
      | false ↦ λ e. range-past first ks a h (not_under (R first to) e) ∙ sym (none-after to first ks (not_under (R first to) e))
    ] refl

    pub range-none : (ks : List K) → first_reached (λ k. R k from) ks ≡ None → filter (is_within R from to) ks ≡ []
    range-none [] h = refl
    range-none (k ∷ ks) h = elim (R k from) as (λ c. R k from ≡ c → match_ordering c (first_reached (λ w. R w from) ks) (Some k) (Some k) ≡ None → filter (is_within R from to) (k ∷ ks) ≡ []) [
      | Less ↦ λ l m. left-out k ks l ∙ range-none ks m
      | Equal ↦ λ l m. absurd (cc m)
      | Greater ↦ λ l m. absurd (cc m)
    ] refl h
