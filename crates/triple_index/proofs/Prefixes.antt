-- Keys that begin alike stand side by side.
use Rattle.std.proofs.Common.{◌≡◌, ◌∙◌, ℕ, List, [], ◌∷◌, false, refl, sym, subst, ap, inl, inr}
use Rattle.std.specs.Prelude.{◌⊎◌, None, Some, filter, cond}
use Rattle.std.specs.declared.cmp.Ordering.{Ordering}
use Rattle.std.specs.declared.cmp.Ordering.TheVariants.{Less, Equal, Greater}
use Rattle.std.specs.Ordering.{nat_cmp, ordering_then, ordering_reverse, match_ordering, MatchOrdering, is_eq, is_gt}
use Rattle.std.specs.Cmp.{tied_itself}
use Rattle.std.specs.FinMap.{nat_cmp-IsAntisymmetric}
use Rattle.std.proofs.lemmas.Cmp.{nat_cmp_total}
use Rattle.collections.specs.Ordered.{AllAbove, IsAscending}
use Rattle.page_index.specs.Reading.{AllReached, IsRising, first_reached, keys_above}
use Rattle.triple_index.specs.declared.key.Key.{Key}
use Rattle.triple_index.specs.declared.prefix.Prefix.{Prefix}
use Rattle.triple_index.specs.declared.prefix.Prefix.TheVariants.{All, One, Two}
use Rattle.triple_index.specs.Keys.{key_cmp}
use Rattle.triple_index.specs.Orders.{key_total}
use Rattle.triple_index.specs.Patterns.{prefix_cmp, begins_with}

-- where one key stands below another
splits : (c d e : Ordering) → ordering_then (ordering_then c d) e ≡ Less → (c ≡ Less) ⊎ ((c ≡ Equal) × ((d ≡ Less) ⊎ (d ≡ Equal)))
splits Less d e h = inl refl
splits Equal Less e h = inr (refl, inl refl)
splits Equal Equal e h = inr (refl, inr refl)
splits Equal Greater e h = cc
splits Greater d e h = cc

then_less : (c d : Ordering) → ordering_then c d ≡ Less → (c ≡ Less) ⊎ ((c ≡ Equal) × (d ≡ Less))
then_less Less d h = inl refl
then_less Equal d h = inr (refl, h)
then_less Greater d h = cc

then_greater : (c d : Ordering) → ordering_then c d ≡ Greater → (c ≡ Greater) ⊎ ((c ≡ Equal) × (d ≡ Greater))
then_greater Less d h = cc
then_greater Equal d h = inr (refl, h)
then_greater Greater d h = inl refl

decided : (c d e : Ordering) → c ≡ e → (e ≡ Equal → ⊥) → ordering_then c d ≡ e
decided Less d e h n = h
decided Equal d e h n = absurd (n (sym h))
decided Greater d e h n = h

undecided : (c d e : Ordering) → c ≡ Equal → d ≡ e → ordering_then c d ≡ e
undecided c d e h k = ap (λ o. ordering_then o d) h ∙ k

-- along the numbers
falls : (a b x : ℕ) → nat_cmp a b ≡ Less → nat_cmp b x ≡ Less → nat_cmp a x ≡ Less
falls a b x h e = nat_cmp_total.trans a b x h e

grows : (a b x : ℕ) → nat_cmp a b ≡ Less → nat_cmp a x ≡ Greater → nat_cmp b x ≡ Greater
grows a b x h e =
    let under : nat_cmp x a ≡ Less = nat_cmp_total.antisymm x a ∙ ap ordering_reverse e in
    nat_cmp_total.antisymm b x ∙ ap ordering_reverse (nat_cmp_total.trans x a b under h)

first_low : (a b : Key) (x : ℕ) → key_cmp a b ≡ Less → nat_cmp b.first x ≡ Less → nat_cmp a.first x ≡ Less
first_low a b x h e = elim (splits (nat_cmp a.first b.first) (nat_cmp a.second b.second) (nat_cmp a.third b.third) h) [
  | inl l ↦ falls a.first b.first x l e
  | inr q ↦ subst (λ (n : ℕ). nat_cmp n x ≡ Less) (sym (nat_cmp-IsAntisymmetric a.first b.first q.0)) e
]

first_high : (a b : Key) (x : ℕ) → key_cmp a b ≡ Less → nat_cmp a.first x ≡ Greater → nat_cmp b.first x ≡ Greater
first_high a b x h e = elim (splits (nat_cmp a.first b.first) (nat_cmp a.second b.second) (nat_cmp a.third b.third) h) [
  | inl l ↦ grows a.first b.first x l e
  | inr q ↦ subst (λ (n : ℕ). nat_cmp n x ≡ Greater) (nat_cmp-IsAntisymmetric a.first b.first q.0) e
]

-- what stands below a key that is too low is too low
pub low_below : (p : Prefix) (a b : Key) → key_cmp a b ≡ Less → prefix_cmp p b ≡ Less → prefix_cmp p a ≡ Less
low_below All a b h e = cc
low_below (One x) a b h e = first_low a b x h e
low_below (Two x y) a b h e = elim (then_less (nat_cmp b.first x) (nat_cmp b.second y) e) [
  | inl l ↦ decided (nat_cmp a.first x) (nat_cmp a.second y) Less (first_low a b x h l) (λ k. cc)
  | inr m ↦ elim (splits (nat_cmp a.first b.first) (nat_cmp a.second b.second) (nat_cmp a.third b.third) h) [
    | inl l ↦ decided (nat_cmp a.first x) (nat_cmp a.second y) Less (subst (λ (n : ℕ). nat_cmp a.first n ≡ Less) (nat_cmp-IsAntisymmetric b.first x m.0) l) (λ k. cc)
    | inr q ↦ undecided (nat_cmp a.first x) (nat_cmp a.second y) Less (subst (λ (n : ℕ). nat_cmp n x ≡ Equal) (sym (nat_cmp-IsAntisymmetric a.first b.first q.0)) m.0) (elim q.1 [
      | inl s ↦ falls a.second b.second y s m.1
      | inr s ↦ subst (λ (n : ℕ). nat_cmp n y ≡ Less) (sym (nat_cmp-IsAntisymmetric a.second b.second s)) m.1
    ])
  ]
]

-- what stands above a key that is too high is too high
pub high_above : (p : Prefix) (a b : Key) → key_cmp a b ≡ Less → prefix_cmp p a ≡ Greater → prefix_cmp p b ≡ Greater
high_above All a b h e = cc
high_above (One x) a b h e = first_high a b x h e
high_above (Two x y) a b h e = elim (then_greater (nat_cmp a.first x) (nat_cmp a.second y) e) [
  | inl l ↦ decided (nat_cmp b.first x) (nat_cmp b.second y) Greater (first_high a b x h l) (λ k. cc)
  | inr m ↦ elim (splits (nat_cmp a.first b.first) (nat_cmp a.second b.second) (nat_cmp a.third b.third) h) [
    | inl l ↦ decided (nat_cmp b.first x) (nat_cmp b.second y) Greater (nat_cmp_total.antisymm b.first x ∙ ap ordering_reverse (subst (λ (n : ℕ). nat_cmp n b.first ≡ Less) (nat_cmp-IsAntisymmetric a.first x m.0) l)) (λ k. cc)
    | inr q ↦ undecided (nat_cmp b.first x) (nat_cmp b.second y) Greater (subst (λ (n : ℕ). nat_cmp n x ≡ Equal) (nat_cmp-IsAntisymmetric a.first b.first q.0) m.0) (elim q.1 [
      | inl s ↦ grows a.second b.second y s m.1
      | inr s ↦ subst (λ (n : ℕ). nat_cmp n y ≡ Greater) (nat_cmp-IsAntisymmetric a.second b.second s) m.1
    ])
  ]
]

is_greater : (c : Ordering) → (c ≡ Less → ⊥) → is_eq c ≡ false → c ≡ Greater
is_greater Less n e = absurd (n refl)
is_greater Equal n e = cc
is_greater Greater n e = refl

module _ (p : Prefix) where
  reached : (k : Key) (ks : List Key) → AllAbove key_cmp k ks → (prefix_cmp p k ≡ Less → ⊥) → AllReached (prefix_cmp p) ks
  reached k [] a n = tt
  reached k (l ∷ ks) a n = (λ e. n (low_below p k l a.0 e), reached k ks a.1 n)

  -- the keys that are too low come first
  pub rising : (ks : List Key) → IsAscending key_cmp ks → IsRising (prefix_cmp p) ks
  rising [] a = tt
  rising (k ∷ ks) a = elim (prefix_cmp p k) as (λ c. prefix_cmp p k ≡ c → MatchOrdering c (IsRising (prefix_cmp p) ks) (AllReached (prefix_cmp p) ks) (AllReached (prefix_cmp p) ks)) [
    | Less ↦ λ e. rising ks a.1
    | Equal ↦ λ e. reached k ks a.0 (λ l. cc)
    | Greater ↦ λ e. reached k ks a.0 (λ l. cc)
  ] refl

  none_after : (k : Key) (ks : List Key) → AllAbove key_cmp k ks → prefix_cmp p k ≡ Greater → filter (begins_with p) ks ≡ []
  none_after k [] a e = refl
  none_after k (l ∷ ks) a e = ap (λ c. cond (is_eq c) (l ∷ filter (begins_with p) ks) (filter (begins_with p) ks)) (high_above p k l a.0 e) ∙ none_after k ks a.1 e

  -- from a key on that is not asked for, and not too low, none is
  pub past : (k : Key) (ks : List Key) → AllAbove key_cmp k ks → (prefix_cmp p k ≡ Less → ⊥) → begins_with p k ≡ false → filter (begins_with p) (k ∷ ks) ≡ []
  past k ks a n e = let g = is_greater (prefix_cmp p k) n e in ap (λ c. cond (is_eq c) (k ∷ filter (begins_with p) ks) (filter (begins_with p) ks)) g ∙ none_after k ks a g

  -- the same at the first of the keys above one that is not too low
  pub past_above : (s k : Key) (ks : List Key) → IsAscending key_cmp (s ∷ k ∷ ks) → (prefix_cmp p s ≡ Less → ⊥) → begins_with p k ≡ false → filter (begins_with p) (k ∷ ks) ≡ []
  past_above s k ks a n e = past k ks a.1.0 (λ l. n (low_below p s k a.0.0 l)) e

  pub none_asked : (ks : List Key) → first_reached (prefix_cmp p) ks ≡ None → filter (begins_with p) ks ≡ []
  none_asked [] e = refl
  none_asked (k ∷ ks) e = elim (prefix_cmp p k) as (λ c. match_ordering c (first_reached (prefix_cmp p) ks) (Some k) (Some k) ≡ None → cond (is_eq c) (k ∷ filter (begins_with p) ks) (filter (begins_with p) ks) ≡ []) [
    | Less ↦ λ n. none_asked ks n
    | Equal ↦ λ n. absurd (cc n)
    | Greater ↦ λ n. absurd (cc n)
  ] e

-- all that stand above a key are above it
above_all : (s : Key) (ks : List Key) → AllAbove key_cmp s ks → filter (λ k. is_gt (key_cmp k s)) ks ≡ ks
above_all s [] a = refl
above_all s (k ∷ ks) a = ap (λ c. cond (is_gt c) (k ∷ filter (λ k. is_gt (key_cmp k s)) ks) (filter (λ k. is_gt (key_cmp k s)) ks)) (key_total.antisymm k s ∙ ap ordering_reverse a.0) ∙ ap (λ (ls : List Key). k ∷ ls) (above_all s ks a.1)

-- what is asked for stands from the first key on that is reached
pub record IsFrom (p : Prefix) (ks : List Key) (s : Key) : Type 0 where
  pub ascending : IsAscending key_cmp (s ∷ keys_above key_cmp (Some s) ks)
  pub reached : prefix_cmp p s ≡ Less → ⊥
  pub same : filter (begins_with p) (s ∷ keys_above key_cmp (Some s) ks) ≡ filter (begins_with p) ks

from_here : (p : Prefix) (k : Key) (ks : List Key) → IsAscending key_cmp (k ∷ ks) → (prefix_cmp p k ≡ Less → ⊥) → IsFrom p (k ∷ ks) k
from_here p k ks a n =
    let rest : keys_above key_cmp (Some k) (k ∷ ks) ≡ ks = ap (λ c. cond (is_gt c) (k ∷ filter (λ l. is_gt (key_cmp l k)) ks) (filter (λ l. is_gt (key_cmp l k)) ks)) (tied_itself key_total k) ∙ above_all k ks a.0 in
    record {
      ascending = subst (λ (ls : List Key). IsAscending key_cmp (k ∷ ls)) (sym rest) a;
      reached = n;
      same = ap (λ (ls : List Key). filter (begins_with p) (k ∷ ls)) rest;
    }

under_found : (p : Prefix) (k s : Key) (ks : List Key) → AllAbove key_cmp k ks → first_reached (prefix_cmp p) ks ≡ Some s → key_cmp k s ≡ Less
under_found p k s [] a e = cc
under_found p k s (l ∷ ks) a e = elim (prefix_cmp p l) as (λ c. match_ordering c (first_reached (prefix_cmp p) ks) (Some l) (Some l) ≡ Some s → key_cmp k s ≡ Less) [
  | Less ↦ λ n. under_found p k s ks a.1 n
  | Equal ↦ λ n. let same : l ≡ s = cc n in subst (λ (w : Key). key_cmp k w ≡ Less) same a.0
  | Greater ↦ λ n. let same : l ≡ s = cc n in subst (λ (w : Key). key_cmp k w ≡ Less) same a.0
] e

from_later : (p : Prefix) (k s : Key) (ks : List Key) → key_cmp k s ≡ Less → prefix_cmp p k ≡ Less → IsFrom p ks s → IsFrom p (k ∷ ks) s
from_later p k s ks h e f =
    let rest : keys_above key_cmp (Some s) (k ∷ ks) ≡ keys_above key_cmp (Some s) ks = ap (λ c. cond (is_gt c) (k ∷ filter (λ l. is_gt (key_cmp l s)) ks) (filter (λ l. is_gt (key_cmp l s)) ks)) h in
    record {
      ascending = subst (λ (ls : List Key). IsAscending key_cmp (s ∷ ls)) (sym rest) f.ascending;
      reached = f.reached;
      same = ap (λ (ls : List Key). filter (begins_with p) (s ∷ ls)) rest ∙ f.same ∙ sym (ap (λ c. cond (is_eq c) (k ∷ filter (begins_with p) ks) (filter (begins_with p) ks)) e);
    }

pub from_found : (p : Prefix) (ks : List Key) (s : Key) → IsAscending key_cmp ks → first_reached (prefix_cmp p) ks ≡ Some s → IsFrom p ks s
from_found p [] s a e = cc
from_found p (k ∷ ks) s a e = elim (prefix_cmp p k) as (λ c. prefix_cmp p k ≡ c → match_ordering c (first_reached (prefix_cmp p) ks) (Some k) (Some k) ≡ Some s → IsFrom p (k ∷ ks) s) [
  | Less ↦ λ h n. from_later p k s ks (under_found p k s ks a.0 n) h (from_found p ks s a.1 n)
  | Equal ↦ λ h n. let same : k ≡ s = cc n in subst (λ (w : Key). IsFrom p (k ∷ ks) w) same (from_here p k ks a (λ l. cc))
  | Greater ↦ λ h n. let same : k ≡ s = cc n in subst (λ (w : Key). IsFrom p (k ∷ ks) w) same (from_here p k ks a (λ l. cc))
] refl e
