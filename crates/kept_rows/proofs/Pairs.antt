-- The rows of a pair stand side by side.
use Rattle.std.proofs.Common.{◌≡◌, ◌∙◌, ℕ, List, [], ◌∷◌, true, false, refl, sym, subst, ap, inl, inr}
use Rattle.std.specs.Prelude.{◌⊎◌, None, Some, Bool, not, filter, cond}
use Rattle.std.specs.declared.cmp.Ordering.{Ordering}
use Rattle.std.specs.declared.cmp.Ordering.TheVariants.{Less, Equal, Greater}
use Rattle.std.specs.Ordering.{nat_cmp, ordering_then, ordering_reverse, match_ordering, MatchOrdering, is_eq, is_gt}
use Rattle.std.specs.Cmp.{tied_itself}
use Rattle.std.specs.FinMap.{nat_cmp-IsAntisymmetric}
use Rattle.std.proofs.lemmas.Cmp.{nat_cmp_total}
use Rattle.collections.specs.Ordered.{AllAbove, IsAscending, without_item}
use Rattle.page_index.specs.Reading.{AllReached, IsRising, first_reached, keys_above}
use Rattle.shape_model.specs.Rows.{result_row_cmp}
use Rattle.kept_rows.specs.declared.kept_row.KeptRow.{KeptRow}
use Rattle.kept_rows.specs.Kept.{kept_cmp}
use Rattle.kept_rows.specs.Orders.{kept_total}
use Rattle.kept_rows.specs.Merging.{is_of, pair_cmp, without_each, without_pair}

-- where one row stands below another
splits : (c d e : Ordering) → ordering_then c (ordering_then d e) ≡ Less → (c ≡ Less) ⊎ ((c ≡ Equal) × ((d ≡ Less) ⊎ (d ≡ Equal)))
splits Less d e h = inl refl
splits Equal Less e h = inr (refl, inl refl)
splits Equal Equal e h = inr (refl, inr refl)
splits Equal Greater e h = cc
splits Greater d e h = cc

then_less : (c d : Ordering) → ordering_then c d ≡ Less → (c ≡ Less) ⊎ ((c ≡ Equal) × (d ≡ Less))
then_less Less d h = inl refl
then_less Equal d h = inr (refl, h)
then_less Greater d h = cc

then_greater : (c d : Ordering) → ordering_then c d ≡ Greater → (c ≡ Greater) ⊎ ((c ≡ Equal) × (d ≡ Greater))
then_greater Less d h = cc
then_greater Equal d h = inr (refl, h)
then_greater Greater d h = inl refl

decided : (c d e : Ordering) → c ≡ e → (e ≡ Equal → ⊥) → ordering_then c d ≡ e
decided Less d e h n = h
decided Equal d e h n = absurd (n (sym h))
decided Greater d e h n = h

undecided : (c d e : Ordering) → c ≡ Equal → d ≡ e → ordering_then c d ≡ e
undecided c d e h k = ap (λ o. ordering_then o d) h ∙ k

-- along the numbers
falls : (a b x : ℕ) → nat_cmp a b ≡ Less → nat_cmp b x ≡ Less → nat_cmp a x ≡ Less
falls a b x h e = nat_cmp_total.trans a b x h e

grows : (a b x : ℕ) → nat_cmp a b ≡ Less → nat_cmp a x ≡ Greater → nat_cmp b x ≡ Greater
grows a b x h e =
    let under : nat_cmp x a ≡ Less = nat_cmp_total.antisymm x a ∙ ap ordering_reverse e in
    nat_cmp_total.antisymm b x ∙ ap ordering_reverse (nat_cmp_total.trans x a b under h)

first_low : (a b : KeptRow) (x : ℕ) → kept_cmp a b ≡ Less → nat_cmp b.shape x ≡ Less → nat_cmp a.shape x ≡ Less
first_low a b x h e = elim (splits (nat_cmp a.shape b.shape) (nat_cmp a.focus b.focus) (result_row_cmp a.row b.row) h) [
  | inl l ↦ falls a.shape b.shape x l e
  | inr q ↦ subst (λ (n : ℕ). nat_cmp n x ≡ Less) (sym (nat_cmp-IsAntisymmetric a.shape b.shape q.0)) e
]

first_high : (a b : KeptRow) (x : ℕ) → kept_cmp a b ≡ Less → nat_cmp a.shape x ≡ Greater → nat_cmp b.shape x ≡ Greater
first_high a b x h e = elim (splits (nat_cmp a.shape b.shape) (nat_cmp a.focus b.focus) (result_row_cmp a.row b.row) h) [
  | inl l ↦ grows a.shape b.shape x l e
  | inr q ↦ subst (λ (n : ℕ). nat_cmp n x ≡ Greater) (nat_cmp-IsAntisymmetric a.shape b.shape q.0) e
]

-- what stands below a row that is too low is too low
low_below : (e : ℕ × ℕ) (a b : KeptRow) → kept_cmp a b ≡ Less → pair_cmp e b ≡ Less → pair_cmp e a ≡ Less
low_below e a b h l = elim (then_less (nat_cmp b.shape e.0) (nat_cmp b.focus e.1) l) [
  | inl k ↦ decided (nat_cmp a.shape e.0) (nat_cmp a.focus e.1) Less (first_low a b e.0 h k) (λ k. cc)
  | inr m ↦ elim (splits (nat_cmp a.shape b.shape) (nat_cmp a.focus b.focus) (result_row_cmp a.row b.row) h) [
    | inl k ↦ decided (nat_cmp a.shape e.0) (nat_cmp a.focus e.1) Less (subst (λ (n : ℕ). nat_cmp a.shape n ≡ Less) (nat_cmp-IsAntisymmetric b.shape e.0 m.0) k) (λ k. cc)
    | inr q ↦ undecided (nat_cmp a.shape e.0) (nat_cmp a.focus e.1) Less (subst (λ (n : ℕ). nat_cmp n e.0 ≡ Equal) (sym (nat_cmp-IsAntisymmetric a.shape b.shape q.0)) m.0) (elim q.1 [
      | inl s ↦ falls a.focus b.focus e.1 s m.1
      | inr s ↦ subst (λ (n : ℕ). nat_cmp n e.1 ≡ Less) (sym (nat_cmp-IsAntisymmetric a.focus b.focus s)) m.1
    ])
  ]
]

-- what stands above a row that is too high is too high
high_above : (e : ℕ × ℕ) (a b : KeptRow) → kept_cmp a b ≡ Less → pair_cmp e a ≡ Greater → pair_cmp e b ≡ Greater
high_above e a b h l = elim (then_greater (nat_cmp a.shape e.0) (nat_cmp a.focus e.1) l) [
  | inl k ↦ decided (nat_cmp b.shape e.0) (nat_cmp b.focus e.1) Greater (first_high a b e.0 h k) (λ k. cc)
  | inr m ↦ elim (splits (nat_cmp a.shape b.shape) (nat_cmp a.focus b.focus) (result_row_cmp a.row b.row) h) [
    | inl k ↦ decided (nat_cmp b.shape e.0) (nat_cmp b.focus e.1) Greater (nat_cmp_total.antisymm b.shape e.0 ∙ ap ordering_reverse (subst (λ (n : ℕ). nat_cmp n b.shape ≡ Less) (nat_cmp-IsAntisymmetric a.shape e.0 m.0) k)) (λ k. cc)
    | inr q ↦ undecided (nat_cmp b.shape e.0) (nat_cmp b.focus e.1) Greater (subst (λ (n : ℕ). nat_cmp n e.0 ≡ Equal) (nat_cmp-IsAntisymmetric a.shape b.shape q.0) m.0) (elim q.1 [
      | inl s ↦ grows a.focus b.focus e.1 s m.1
      | inr s ↦ subst (λ (n : ℕ). nat_cmp n e.1 ≡ Greater) (nat_cmp-IsAntisymmetric a.focus b.focus s) m.1
    ])
  ]
]

is_greater : (c : Ordering) → (c ≡ Less → ⊥) → is_eq c ≡ false → c ≡ Greater
is_greater Less n e = absurd (n refl)
is_greater Equal n e = cc
is_greater Greater n e = refl

module _ (p : ℕ × ℕ) where
  reached : (k : KeptRow) (ks : List KeptRow) → AllAbove kept_cmp k ks → (pair_cmp p k ≡ Less → ⊥) → AllReached (pair_cmp p) ks
  reached k [] a n = tt
  reached k (l ∷ ks) a n = (λ e. n (low_below p k l a.0 e), reached k ks a.1 n)

  -- the rows that are too low come first
  pub rising : (ks : List KeptRow) → IsAscending kept_cmp ks → IsRising (pair_cmp p) ks
  rising [] a = tt
  rising (k ∷ ks) a = elim (pair_cmp p k) as (λ c. pair_cmp p k ≡ c → MatchOrdering c (IsRising (pair_cmp p) ks) (AllReached (pair_cmp p) ks) (AllReached (pair_cmp p) ks)) [
    | Less ↦ λ e. rising ks a.1
    | Equal ↦ λ e. reached k ks a.0 (λ l. cc)
    | Greater ↦ λ e. reached k ks a.0 (λ l. cc)
  ] refl

  none_after : (k : KeptRow) (ks : List KeptRow) → AllAbove kept_cmp k ks → pair_cmp p k ≡ Greater → filter (is_of p) ks ≡ []
  none_after k [] a e = refl
  none_after k (l ∷ ks) a e = ap (λ c. cond (is_eq c) (l ∷ filter (is_of p) ks) (filter (is_of p) ks)) (high_above p k l a.0 e) ∙ none_after k ks a.1 e

  -- from a row on that isn't the pair's, and not too low, none is
  pub past : (k : KeptRow) (ks : List KeptRow) → AllAbove kept_cmp k ks → (pair_cmp p k ≡ Less → ⊥) → is_of p k ≡ false → filter (is_of p) (k ∷ ks) ≡ []
  past k ks a n e = let g = is_greater (pair_cmp p k) n e in ap (λ c. cond (is_eq c) (k ∷ filter (is_of p) ks) (filter (is_of p) ks)) g ∙ none_after k ks a g

  -- the same at the first of the rows above one that isn't too low
  pub past_above : (s k : KeptRow) (ks : List KeptRow) → IsAscending kept_cmp (s ∷ k ∷ ks) → (pair_cmp p s ≡ Less → ⊥) → is_of p k ≡ false → filter (is_of p) (k ∷ ks) ≡ []
  past_above s k ks a n e = past k ks a.1.0 (λ l. n (low_below p s k a.0.0 l)) e

  pub none_asked : (ks : List KeptRow) → first_reached (pair_cmp p) ks ≡ None → filter (is_of p) ks ≡ []
  none_asked [] e = refl
  none_asked (k ∷ ks) e = elim (pair_cmp p k) as (λ c. match_ordering c (first_reached (pair_cmp p) ks) (Some k) (Some k) ≡ None → cond (is_eq c) (k ∷ filter (is_of p) ks) (filter (is_of p) ks) ≡ []) [
    | Less ↦ λ n. none_asked ks n
    | Equal ↦ λ n. absurd (cc n)
    | Greater ↦ λ n. absurd (cc n)
  ] e

-- all that stand above a row are above it
above_all : (s : KeptRow) (ks : List KeptRow) → AllAbove kept_cmp s ks → filter (λ k. is_gt (kept_cmp k s)) ks ≡ ks
above_all s [] a = refl
above_all s (k ∷ ks) a = ap (λ c. cond (is_gt c) (k ∷ filter (λ k. is_gt (kept_cmp k s)) ks) (filter (λ k. is_gt (kept_cmp k s)) ks)) (kept_total.antisymm k s ∙ ap ordering_reverse a.0) ∙ ap (λ (ls : List KeptRow). k ∷ ls) (above_all s ks a.1)

-- the pair's rows stand from the first row on that is reached
pub record IsFrom (p : ℕ × ℕ) (ks : List KeptRow) (s : KeptRow) : Type 0 where
  pub ascending : IsAscending kept_cmp (s ∷ keys_above kept_cmp (Some s) ks)
  pub reached : pair_cmp p s ≡ Less → ⊥
  pub same : filter (is_of p) (s ∷ keys_above kept_cmp (Some s) ks) ≡ filter (is_of p) ks

from_here : (p : ℕ × ℕ) (k : KeptRow) (ks : List KeptRow) → IsAscending kept_cmp (k ∷ ks) → (pair_cmp p k ≡ Less → ⊥) → IsFrom p (k ∷ ks) k
from_here p k ks a n =
    let rest : keys_above kept_cmp (Some k) (k ∷ ks) ≡ ks = ap (λ c. cond (is_gt c) (k ∷ filter (λ l. is_gt (kept_cmp l k)) ks) (filter (λ l. is_gt (kept_cmp l k)) ks)) (tied_itself kept_total k) ∙ above_all k ks a.0 in
    record {
      ascending = subst (λ (ls : List KeptRow). IsAscending kept_cmp (k ∷ ls)) (sym rest) a;
      reached = n;
      same = ap (λ (ls : List KeptRow). filter (is_of p) (k ∷ ls)) rest;
    }

under_found : (p : ℕ × ℕ) (k s : KeptRow) (ks : List KeptRow) → AllAbove kept_cmp k ks → first_reached (pair_cmp p) ks ≡ Some s → kept_cmp k s ≡ Less
under_found p k s [] a e = cc
under_found p k s (l ∷ ks) a e = elim (pair_cmp p l) as (λ c. match_ordering c (first_reached (pair_cmp p) ks) (Some l) (Some l) ≡ Some s → kept_cmp k s ≡ Less) [
  | Less ↦ λ n. under_found p k s ks a.1 n
  | Equal ↦ λ n. let same : l ≡ s = cc n in subst (λ (w : KeptRow). kept_cmp k w ≡ Less) same a.0
  | Greater ↦ λ n. let same : l ≡ s = cc n in subst (λ (w : KeptRow). kept_cmp k w ≡ Less) same a.0
] e

from_later : (p : ℕ × ℕ) (k s : KeptRow) (ks : List KeptRow) → kept_cmp k s ≡ Less → pair_cmp p k ≡ Less → IsFrom p ks s → IsFrom p (k ∷ ks) s
from_later p k s ks h e f =
    let rest : keys_above kept_cmp (Some s) (k ∷ ks) ≡ keys_above kept_cmp (Some s) ks = ap (λ c. cond (is_gt c) (k ∷ filter (λ l. is_gt (kept_cmp l s)) ks) (filter (λ l. is_gt (kept_cmp l s)) ks)) h in
    record {
      ascending = subst (λ (ls : List KeptRow). IsAscending kept_cmp (s ∷ ls)) (sym rest) f.ascending;
      reached = f.reached;
      same = ap (λ (ls : List KeptRow). filter (is_of p) (s ∷ ls)) rest ∙ f.same ∙ sym (ap (λ c. cond (is_eq c) (k ∷ filter (is_of p) ks) (filter (is_of p) ks)) e);
    }

pub from_found : (p : ℕ × ℕ) (ks : List KeptRow) (s : KeptRow) → IsAscending kept_cmp ks → first_reached (pair_cmp p) ks ≡ Some s → IsFrom p ks s
from_found p [] s a e = cc
from_found p (k ∷ ks) s a e = elim (pair_cmp p k) as (λ c. pair_cmp p k ≡ c → match_ordering c (first_reached (pair_cmp p) ks) (Some k) (Some k) ≡ Some s → IsFrom p (k ∷ ks) s) [
  | Less ↦ λ h n. from_later p k s ks (under_found p k s ks a.0 n) h (from_found p ks s a.1 n)
  | Equal ↦ λ h n. let same : k ≡ s = cc n in subst (λ (w : KeptRow). IsFrom p (k ∷ ks) w) same (from_here p k ks a (λ l. cc))
  | Greater ↦ λ h n. let same : k ≡ s = cc n in subst (λ (w : KeptRow). IsFrom p (k ∷ ks) w) same (from_here p k ks a (λ l. cc))
] refl e

-- a row below all that are taken out stays
stays : (k : KeptRow) (xs ks : List KeptRow) → AllAbove kept_cmp k xs → without_each xs (k ∷ ks) ≡ k ∷ without_each xs ks
stays k [] ks a = refl
stays k (x ∷ xs) ks a =
    ap (λ o. without_each xs (match_ordering o (k ∷ ks) ks (k ∷ without_item kept_cmp x ks))) (kept_total.antisymm x k ∙ ap ordering_reverse a.0)
    ∙ stays k xs (without_item kept_cmp x ks) a.1

some_above : (q : KeptRow → Bool) (k : KeptRow) (ks : List KeptRow) → AllAbove kept_cmp k ks → AllAbove kept_cmp k (filter q ks)
some_above q k [] a = tt
some_above q k (l ∷ ks) a = elim (q l) as (λ b. AllAbove kept_cmp k (cond b (l ∷ filter q ks) (filter q ks))) [
  | true ↦ (a.0, some_above q k ks a.1)
  | false ↦ some_above q k ks a.1
]

-- without each row of a pair those of all others are left
pub all_taken_out : (p : ℕ × ℕ) (ks : List KeptRow) → IsAscending kept_cmp ks → without_each (filter (is_of p) ks) ks ≡ without_pair p ks
all_taken_out p [] a = refl
all_taken_out p (k ∷ ks) a = elim (is_of p k) as (λ b. without_each (cond b (k ∷ filter (is_of p) ks) (filter (is_of p) ks)) (k ∷ ks) ≡ cond (not b) (k ∷ without_pair p ks) (without_pair p ks)) [
  | true ↦ ap (λ o. without_each (filter (is_of p) ks) (match_ordering o (k ∷ ks) ks (k ∷ without_item kept_cmp k ks))) (tied_itself kept_total k) ∙ all_taken_out p ks a.1
  | false ↦ stays k (filter (is_of p) ks) ks (some_above (is_of p) k ks a.0) ∙ ap (λ (ls : List KeptRow). k ∷ ls) (all_taken_out p ks a.1)
]
