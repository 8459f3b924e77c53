-- The keys above another, and the first of these.
use Rattle.std.proofs.Common.{◌≡◌, ◌∙◌, ℕ, zero, suc, ◌+◌, ◌-◌, ◌<◌, ◌≤◌, Bool, List, [], ◌∷◌, ◌++◌, length, get_or, take, drop, refl, sym, subst, ap, arith, true, false, append_assoc}
use Rattle.std.specs.Prelude.{Option, None, Some, filter, cond}
use Rattle.std.specs.List.Sorted.{IsPartitionedBy, IsPartitionPoint}
use Rattle.std.specs.declared.cmp.Ordering.{Ordering}
use Rattle.std.specs.declared.cmp.Ordering.TheVariants.{Less, Equal, Greater}
use Rattle.std.specs.Ordering.{is_le, is_gt}
use Rattle.std.specs.Cmp.{IsTotalOrder}
use Rattle.std.proofs.lemmas.Cmp.{tied_itself}
use Rattle.std.proofs.lemmas.List.{take_all, length-drop}
use Rattle.collections.specs.Ordered.{AllAbove, IsAscending}
use Rattle.page_tree.specs.Blocks.{Block, AreBelow, AreSound, AllUnder, IsPlace, keys_of, first_of}
use Rattle.page_tree.specs.Reading.{IsRun, keys_above}
use Rattle.page_tree.proofs.Keys.{turned, turned_back, below_through, above-right}
use Rattle.page_tree.proofs.Reached.{filter-append}
use Rattle.page_tree.proofs.Changes.{all-keys}

module _ {K : Type 0} where
  pub run-whole : (ks : List K) → IsRun ks ks
  run-whole ks = record { more = ([], sym (append-nil ks)); none = λ e. e }
    where
      append-nil : (ks : List K) → ks ++ [] ≡ ks
      append-nil [] = refl
      append-nil (k ∷ ks) = ap (λ (t : List K). k ∷ t) (append-nil ks)

  run-more : (r ks ls : List K) → IsRun r ks → (r ≡ [] → ls ≡ []) → IsRun r (ks ++ ls)
  run-more r ks ls u f = record {
    more = (u.more.0 ++ ls, ap (λ (t : List K). t ++ ls) u.more.1 ∙ append_assoc r u.more.0 ls);
    none = λ e. ap (λ (t : List K). t ++ ls) (u.none e) ∙ f e;
  }

  pub take-rest : (i : ℕ) (ks : List K) → take (length ks - i) (drop i ks) ≡ drop i ks
  take-rest i ks = take_all (length ks - i) (drop i ks) (let n = length-drop i ks in omega arith)

  some-keys : (l : K) (ks : List K) → first_of ks ≡ Some l → ks ≡ [] → ⊥
  some-keys l ks e is = let p = ap first_of is in cc (e, p)

  -- the first keys of a page are the first of it and all later ones
  pub run-at : (h : ℕ) (bs : List (Block K)) (i : ℕ) (b : Block K) (r : List K) → AreBelow h bs → i < length bs → b ≡ get_or bs i b → IsRun r b.page.keys → IsRun r (keys_of (drop i bs))
  run-at h [] i b r a lt is u = absurd (omega arith)
  run-at h (c ∷ bs) zero b r a lt is u =
      let own = subst (λ (d : Block K). IsRun r d.page.keys) is u in
      run-more r c.page.keys (keys_of bs) own (λ e. absurd (some-keys c.low c.page.keys a.0.first (own.none e)))
  run-at h (c ∷ bs) (suc i) b r a lt is u = run-at h bs i b r a.1 (omega arith) is u

  drop-all : (bs : List (Block K)) (i : ℕ) → i ≡ length bs → drop i bs ≡ []
  drop-all [] zero e = refl
  drop-all [] (suc i) e = refl
  drop-all (b ∷ bs) zero e = absurd (omega arith)
  drop-all (b ∷ bs) (suc i) e = drop-all bs i (omega arith)

module _ {K : Type 0} (R : K → K → Ordering) (o : IsTotalOrder R) where
  pub all-above : (x : K) (ks : List K) → AllAbove R x ks → keys_above R (Some x) ks ≡ ks
  all-above x [] a = refl
  all-above x (k ∷ ks) a = ap (λ c. cond (is_gt c) (k ∷ keys_above R (Some x) ks) (keys_above R (Some x) ks)) (turned_back R o x k a.0) ∙ ap (λ (t : List K). k ∷ t) (all-above x ks a.1)

  none-above : (x : K) (ks : List K) → AllUnder R x ks → keys_above R (Some x) ks ≡ []
  none-above x [] a = refl
  none-above x (k ∷ ks) a = ap (λ c. cond (is_gt c) (k ∷ keys_above R (Some x) ks) (keys_above R (Some x) ks)) (turned R o x k a.0) ∙ none-above x ks a.1

  -- of a leaf
  above_at : (x : K) (ks : List K) (j : ℕ) (d : K) → AllAbove R x ks → j < length ks → R x (get_or ks j d) ≡ Less
  above_at x [] j d a lt = absurd (omega arith)
  above_at x (k ∷ ks) zero d a lt = a.0
  above_at x (k ∷ ks) (suc j) d a lt = above_at x ks j d a.1 (omega arith)

  le-before : (x k l : K) → R k l ≡ Less → is_le (R l x) ≡ true → is_le (R k x) ≡ true
  le-before x k l h e = ap is_le (turned R o x k (below_through R o x l k (λ n. let t = ap is_le (turned_back R o x l n) in cc (e, t)) h))

  pub le-partitioned : (x : K) (ks : List K) → IsAscending R ks → IsPartitionedBy (λ k. is_le (R k x)) ks
  le-partitioned x [] s i j d le lt e = absurd (omega arith)
  le-partitioned x (k ∷ ks) s zero zero d le lt e = e
  le-partitioned x (k ∷ ks) s zero (suc j) d le lt e = le-before x k (get_or ks j d) (above_at k ks j d s.0 (omega arith)) e
  le-partitioned x (k ∷ ks) s (suc i) zero d le lt e = absurd (omega arith)
  le-partitioned x (k ∷ ks) s (suc i) (suc j) d le lt e = le-partitioned x ks s.1 i j d (omega arith) (omega arith) e

  le-not_gt : (c : Ordering) → is_le c ≡ true → is_gt c ≡ false
  le-not_gt Less e = refl
  le-not_gt Equal e = refl
  le-not_gt Greater e = cc

  not_le-gt : (c : Ordering) → is_le c ≡ false → is_gt c ≡ true
  not_le-gt Less e = cc
  not_le-gt Equal e = cc
  not_le-gt Greater e = refl

  pub above-from : (x : K) (ks : List K) (i : ℕ) → i ≤ length ks → IsPartitionPoint (λ k. is_le (R k x) ≡ true) (λ k. is_le (R k x) ≡ false) ks i → drop i ks ≡ keys_above R (Some x) ks
  above-from x [] zero le q = refl
  above-from x [] (suc i) le q = refl
  above-from x (k ∷ ks) zero le q = sym (ap (λ b. cond b (k ∷ keys_above R (Some x) ks) (keys_above R (Some x) ks)) (not_le-gt (R k x) (q.1 0 k (omega arith) (omega arith))) ∙ ap (λ (t : List K). k ∷ t) (sym (above-from x ks 0 (omega arith) (λ j d a b. absurd (omega arith), λ j d a b. q.1 (suc j) d (omega arith) (omega arith)))))
  above-from x (k ∷ ks) (suc i) le q = above-from x ks i (omega arith) (λ j d a b. q.0 (suc j) d (omega arith) (omega arith), λ j d a b. q.1 (suc j) d (omega arith) (omega arith)) ∙ sym (ap (λ b. cond b (k ∷ keys_above R (Some x) ks) (keys_above R (Some x) ks)) (le-not_gt (R k x) (q.0 0 k (omega arith) (omega arith))))

  -- of what comes after a run
  skipped : (w k : K) (ks : List K) → R k w ≡ Less → keys_above R (Some w) (k ∷ ks) ≡ keys_above R (Some w) ks
  skipped w k ks e = ap (λ c. cond (is_gt c) (k ∷ keys_above R (Some w) ks) (keys_above R (Some w) ks)) e

  after-run : (l : K) (r ms : List K) → IsAscending R (r ++ (l ∷ ms)) → keys_above R (Some l) (r ++ (l ∷ ms)) ≡ ms
  after-run l [] ms s = ap (λ c. cond (is_gt c) (l ∷ keys_above R (Some l) ms) (keys_above R (Some l) ms)) (tied_itself o l) ∙ all-above l ms s.0
  after-run l (k ∷ r) ms s = skipped l k (r ++ (l ∷ ms)) (above-right R k r (l ∷ ms) s.0).0 ∙ after-run l r ms s.1

  filter-all : (p : K → Bool) (x : K) (ks : List K) → AllAbove R x ks → AllAbove R x (filter p ks)
  filter-all p x [] a = tt
  filter-all p x (k ∷ ks) a = elim (p k) as (λ b. AllAbove R x (cond b (k ∷ filter p ks) (filter p ks))) [
    | true ↦ (a.0, filter-all p x ks a.1)
    | false ↦ filter-all p x ks a.1
  ]

  pub filter-ascends : (p : K → Bool) (ks : List K) → IsAscending R ks → IsAscending R (filter p ks)
  filter-ascends p [] s = tt
  filter-ascends p (k ∷ ks) s = elim (p k) as (λ b. IsAscending R (cond b (k ∷ filter p ks) (filter p ks))) [
    | true ↦ (filter-all p k ks s.0, filter-ascends p ks s.1)
    | false ↦ filter-ascends p ks s.1
  ]

  above-are : (x : K) (ks : List K) → AllAbove R x (keys_above R (Some x) ks)
  above-are x [] = tt
  above-are x (k ∷ ks) = elim (R k x) as (λ c. R k x ≡ c → AllAbove R x (cond (is_gt c) (k ∷ keys_above R (Some x) ks) (keys_above R (Some x) ks))) [
    | Less ↦ λ e. above-are x ks
    | Equal ↦ λ e. above-are x ks
    | Greater ↦ λ e. (turned R o k x e, above-are x ks)
  ] refl

  above-again : (x l : K) (ks : List K) → R x l ≡ Less → keys_above R (Some l) (keys_above R (Some x) ks) ≡ keys_above R (Some l) ks
  above-again x l [] h = refl
  above-again x l (k ∷ ks) h = elim (R k x) as (λ c. R k x ≡ c → keys_above R (Some l) (cond (is_gt c) (k ∷ keys_above R (Some x) ks) (keys_above R (Some x) ks)) ≡ keys_above R (Some l) (k ∷ ks)) [
    | Less ↦ λ e. above-again x l ks h ∙ sym (skipped l k ks (o.trans k x l e h))
    | Equal ↦ λ e. above-again x l ks h ∙ sym (skipped l k ks (o.congr k x l e ∙ h))
    | Greater ↦ λ e. ap (λ (t : List K). cond (is_gt (R k l)) (k ∷ t) t) (above-again x l ks h)
  ] refl

  -- what is above the last key of a run of the keys above another
  more-is : (q : Option K) (l : K) (ks r ms : List K) → IsAscending R ks → keys_above R q ks ≡ r ++ (l ∷ ms) → ms ≡ keys_above R (Some l) ks
  more-is None l ks r ms s e = sym (ap (keys_above R (Some l)) e ∙ after-run l r ms (subst (λ (t : List K). IsAscending R t) e s))
  more-is (Some x) l ks r ms s e =
      let h : R x l ≡ Less = (above-right R x r (l ∷ ms) (subst (λ (t : List K). AllAbove R x t) e (above-are x ks))).0 in
      sym (sym (above-again x l ks h) ∙ ap (keys_above R (Some l)) e ∙ after-run l r ms (subst (λ (t : List K). IsAscending R t) e (filter-ascends (λ k. is_gt (R k x)) ks s)))

  pub run-then : (q : Option K) (ks run : List K) (f l : K) (t r : List K) → IsAscending R ks → IsRun run (keys_above R q ks) → run ≡ f ∷ t → run ≡ r ++ (l ∷ []) → keys_above R q ks ≡ f ∷ (t ++ keys_above R (Some l) ks)
  run-then q ks run f l t r s u a b =
      let e : keys_above R q ks ≡ r ++ (l ∷ u.more.0) = u.more.1 ∙ ap (λ (w : List K). w ++ u.more.0) b ∙ append_assoc r (l ∷ []) u.more.0 in
      u.more.1 ∙ ap (λ (w : List K). w ++ u.more.0) a ∙ ap (λ (w : List K). f ∷ (t ++ w)) (more-is q l ks r u.more.0 s e)

  -- below an inner page
  module _ (x : K) (h : ℕ) (bs : List (Block K)) (s : AreSound R h bs) (i : ℕ) (place : IsPlace R x bs i) (e : Block K) (is : e ≡ get_or bs i e) where
    above-place : keys_above R (Some x) (keys_of bs) ≡ keys_above R (Some x) e.page.keys ++ keys_of (drop (i + 1) bs)
    above-place =
        let fs = keys_of (take i bs) in let ls = keys_of (drop (i + 1) bs) in
        ap (keys_above R (Some x)) (all-keys R o x h bs s i place e is) ∙ filter-append (λ k. is_gt (R k x)) fs (e.page.keys ++ ls) ∙ ap (λ (t : List K). t ++ keys_above R (Some x) (e.page.keys ++ ls)) (none-above x fs place.before) ∙ filter-append (λ k. is_gt (R k x)) e.page.keys ls ∙ ap (λ (t : List K). keys_above R (Some x) e.page.keys ++ t) (all-above x ls place.after)

    pub run-own : (r : List K) → 0 < length r → IsRun r (keys_above R (Some x) e.page.keys) → IsRun r (keys_above R (Some x) (keys_of bs))
    run-own r lt u = subst (λ (t : List K). IsRun r t) (sym above-place) (run-more r (keys_above R (Some x) e.page.keys) (keys_of (drop (i + 1) bs)) u (λ n. let z : length r ≡ 0 = ap length n in absurd (omega arith)))

    pub run-last : (r : List K) → i + 1 ≡ length bs → IsRun r (keys_above R (Some x) e.page.keys) → IsRun r (keys_above R (Some x) (keys_of bs))
    run-last r n u = subst (λ (t : List K). IsRun r t) (sym above-place) (run-more r (keys_above R (Some x) e.page.keys) (keys_of (drop (i + 1) bs)) u (λ _. ap keys_of (drop-all bs (i + 1) n)))

    pub run-next : (r w : List K) (b : Block K) → length w ≡ 0 → IsRun w (keys_above R (Some x) e.page.keys) → i + 1 < length bs → b ≡ get_or bs (i + 1) b → IsRun r b.page.keys → IsRun r (keys_above R (Some x) (keys_of bs))
    run-next r w b z u lt at v = subst (λ (t : List K). IsRun r t) (sym (above-place ∙ ap (λ (t : List K). t ++ keys_of (drop (i + 1) bs)) (u.none (nil-of w z)))) (run-at h bs (i + 1) b r s.below lt at v)
      where
        nil-of : (w : List K) → length w ≡ 0 → w ≡ []
        nil-of [] z = refl
        nil-of (k ∷ w) z = absurd (omega arith)
