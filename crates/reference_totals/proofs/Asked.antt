-- What is known of totals while places are asked in turn.
use Rattle.std.proofs.Common.{◌≡◌, ◌∙◌, ℕ, zero, suc, ◌+◌, ◌<◌, ◌≤◌, List, [], ◌∷◌, ◌++◌, length, take, set, replicate, map, get_or, refl, sym, ap, subst, arith, inl, inr, Option, Some, None}
use Rattle.std.specs.Prelude.{◌⊎◌, slice_get}
use Rattle.std.specs.List.{Contains}
use Rattle.std.specs.BTreeMap.{BTreeMap}
use Rattle.std.proofs.lemmas.List.{length_push, take_all, length-set, get_or-set_same, get_or-set_other}
use Rattle.std.proofs.lemmas.List.Elements.{Contains-append_left, Contains-push}
use Rattle.std.proofs.lemmas.Bool.{cases_eq}
use Rattle.collections.proofs.Members.{has_head, has_tail}
use Rattle.rdf_model.specs.declared.term.Term.{Term}
use Rattle.reference_totals.specs.declared.place.WeightedPlace.{WeightedPlace}
use Rattle.reference_totals.specs.declared.numbers.NumberedPlace.{NumberedPlace}
use Rattle.reference_totals.specs.Totals.{AreTotals, HasTotal, SumBy, TotalBy, capped, entry}
use Rattle.reference_totals.specs.Numbers.{AreNumbered, IsNumbered}
use Rattle.reference_totals.specs.Rounds.{AreSettled, AreSound, AreWithin, IsKnown, LacksOne, NoneIsKnown, Shows, Tells, WasAsked, WereAsked, total_in, total_known}
use Rattle.reference_totals.proofs.TotalSums.{sum_counted, sum_has, total_from}
use Rattle.reference_totals.proofs.Numbered.{cases_more, got_in, got_within, one_node, place_of, zip_left, zip_right}

one_value : (a b : ℕ) → Some a ≡ Some b → a ≡ b
one_value a b e = cc

-- sums over the numbers are sums over the nodes
sum_mapped : {X Y : Type 0} → (T : Y → ℕ → Type 0) (f : X → Y) (xs : List X) (k : ℕ) → SumBy T (map f xs) k → SumBy (λ x a. T (f x) a) xs k
sum_mapped T f [] k h = h
sum_mapped T f (x ∷ xs) k h = (h.0, h.1, h.2, sum_mapped T f xs h.1 h.3, h.4)

mapped_has : {X Y : Type 0} → (f : X → Y) (xs : List X) (y : Y) → Contains (map f xs) y → (x : X) × Contains xs x × (f x ≡ y)
mapped_has f [] y c = absurd (omega arith)
mapped_has f (x ∷ xs) y (zero, l, e) = (x, has_head x xs, e)
mapped_has f (x ∷ xs) y (suc i, l, e) = let k = mapped_has f xs y (i, omega arith, e) in (k.0, has_tail x xs k.0 k.1, k.2)

set_cases : (known : List (Option ℕ)) (i v : ℕ) → (j : ℕ) → i < length known → ((i ≡ j) × (get_or (set known i (Some v)) j None ≡ Some v)) ⊎ (get_or (set known i (Some v)) j None ≡ get_or known j None)
set_cases known i v j l = elim (cases_eq j i) [
  | inl e ↦ inl (sym e, ap (λ x. get_or (set known i (Some v)) x None) e ∙ get_or-set_same known i (Some v) None l)
  | inr n ↦ inr (get_or-set_other known i j (Some v) None n)
]

set_keeps : (known : List (Option ℕ)) (i v : ℕ) → i < length known → (j : ℕ) → IsKnown known j → IsKnown (set known i (Some v)) j
set_keeps known i v l j k = elim (set_cases known i v j l) [ inl here ↦ (v, here.1) | inr other ↦ (k.0, other ∙ k.1) ]

set_sound : (places : List WeightedPlace) (most : ℕ) (numbers : BTreeMap Term ℕ) (known : List (Option ℕ)) (p : WeightedPlace) (q : NumberedPlace) (v : ℕ)
    → ((n m : Term) (i j : ℕ) → entry numbers n ≡ Some i → entry numbers m ≡ Some j → i ≡ j → n ≡ m) → Contains places p → IsNumbered numbers p q → q.node < length known → Shows most known q v
    → AreSound places most numbers known → AreSound places most numbers (set known q.node (Some v))
set_sound places most numbers known p q v one c is l shows sound n w = elim (entry numbers n) as
    (λ (o : Option ℕ). entry numbers n ≡ o → total_in (set known q.node (Some v)) o ≡ Some w → (k : ℕ) × HasTotal places n k × (w ≡ capped most k)) [
      | None ↦ λ f e. cc
      | Some j ↦ λ f e. elim (set_cases known q.node v j l) [
        | inl here ↦
            let own : q.own ≡ p.own = is.own in
            let sums = subst (λ (js : List (Option ℕ)). SumBy (λ j a. total_in known j ≡ Some a) js shows.0) is.to shows.1 in
            let counted = sum_counted places most numbers known sound p.to shows.0 (sum_mapped (λ j a. total_in known j ≡ Some a) (entry numbers) p.to shows.0 sums) in
            let same : v ≡ w = one_value v w (sym here.1 ∙ e) in
            let node : p.node ≡ n = one p.node n q.node j is.node f here.0 in (
              p.own + counted.0,
              subst (λ (x : Term). HasTotal places x (p.own + counted.0)) node (total_from places p counted.0 c counted.1),
              sym same ∙ shows.2 ∙ ap (λ x. capped most (x + shows.0)) own ∙ counted.2 p.own,
            )
        | inr other ↦ sound n w (ap (λ (o : Option ℕ). total_in known o) f ∙ sym other ∙ e)
      ]
    ] refl

-- none so far
pub asked_none : (qs : List NumberedPlace) (most : ℕ) (waiting : List ℕ) (known : List (Option ℕ)) → WereAsked qs most 0 (take 0 waiting) known known []
asked_none qs most waiting known = record {
  sound = λ places numbers are h. h;
  room = refl;
  kept = λ m k. k;
  each = λ i p c e. absurd (omega arith);
  fewer = omega arith;
  still = λ e. (refl, λ i p c h. absurd (omega arith));
}

asked_nothing : (qs : List NumberedPlace) (most : ℕ) (is : List ℕ) (k i : ℕ) (known new : List (Option ℕ)) (left : List ℕ) → k < length is → i ≡ get_or is k 0
    → WereAsked qs most k (take k is) known new left → slice_get qs i ≡ None → WereAsked qs most (k + 1) (take (k + 1) is) known new left
asked_nothing qs most is k i known new left l e before none =
    let fewer : length left ≤ k = before.fewer in
    record {
      sound = before.sound;
      room = before.room;
      kept = before.kept;
      each = λ j p c there. elim (cases_more is k i 0 l e j c) [
        | inl old ↦ before.each j p old there
        | inr same ↦ absurd (let f : slice_get qs j ≡ None = subst (λ x. slice_get qs x ≡ None) same none in cc)
      ];
      fewer = omega arith;
      still = λ all. absurd (omega arith);
    }

asked_shown : (qs : List NumberedPlace) (most : ℕ) (is : List ℕ) (k i : ℕ) (known now : List (Option ℕ)) (left : List ℕ) (q : NumberedPlace) (v : ℕ) → AreWithin qs known
    → k < length is → i ≡ get_or is k 0
    → WereAsked qs most k (take k is) known now left → slice_get qs i ≡ Some q → Shows most now q v
    → WereAsked qs most (k + 1) (take (k + 1) is) known (set now q.node (Some v)) left
asked_shown qs most is k i known now left q v within l e before here shows =
    let fewer : length left ≤ k = before.fewer in
    let old_room : length now ≡ length known = before.room in
    let has : Contains qs q = got_in qs i q here in
    let fits : q.node < length now = (let w = within q has in omega arith) in
    record {
      sound = λ places numbers are h.
          let from = zip_right (IsNumbered numbers) places qs are.each q has in
          set_sound places most numbers now from.0 q v (one_node places numbers are.indices) from.1 from.2 fits shows (before.sound places numbers are h);
      room = length-set now q.node (Some v) ∙ old_room;
      kept = λ m k. set_keeps now q.node v fits m (before.kept m k);
      each = λ j r c there. elim (cases_more is k i 0 l e j c) [
        | inl old ↦ elim (before.each j r old there) [ inl known ↦ inl (set_keeps now q.node v fits r.node known) | inr w ↦ inr w ]
        | inr same ↦
            let f : slice_get qs j ≡ Some q = subst (λ x. slice_get qs x ≡ Some q) same here in
            let g : q ≡ r = cc in
            inl (subst (λ (x : NumberedPlace). IsKnown (set now q.node (Some v)) x.node) g (v, get_or-set_same now q.node (Some v) None fits))
      ];
      fewer = omega arith;
      still = λ all. absurd (omega arith);
    }

asked_left : (qs : List NumberedPlace) (most : ℕ) (is : List ℕ) (k i : ℕ) (known now : List (Option ℕ)) (left : List ℕ) (q : NumberedPlace) → k < length is → i ≡ get_or is k 0
    → WereAsked qs most k (take k is) known now left → slice_get qs i ≡ Some q → LacksOne now q
    → WereAsked qs most (k + 1) (take (k + 1) is) known now (left ++ i ∷ [])
asked_left qs most is k i known now left q l e before here lacks =
    let fewer : length left ≤ k = before.fewer in
    let long : length (left ++ i ∷ []) ≡ length left + 1 = length_push left i in
    record {
      sound = before.sound;
      room = before.room;
      kept = before.kept;
      each = λ j r c there. elim (cases_more is k i 0 l e j c) [
        | inl old ↦ elim (before.each j r old there) [ inl known ↦ inl known | inr w ↦ inr (Contains-append_left left (i ∷ []) j w) ]
        | inr same ↦ inr (subst (λ x. Contains (left ++ i ∷ []) x) same (Contains-push left i))
      ];
      fewer = omega arith;
      still = λ all.
          let same = before.still (omega arith) in (
            same.0,
            λ j r c there. elim (cases_more is k i 0 l e j c) [
              | inl old ↦ same.1 j r old there
              | inr f ↦
                  let other : slice_get qs j ≡ Some q = subst (λ x. slice_get qs x ≡ Some q) f here in
                  let g : q ≡ r = cc in
                  subst (λ (x : NumberedPlace). LacksOne known x) g (subst (λ (t : List (Option ℕ)). LacksOne t q) same.0 lacks)
            ],
          );
    }

-- one more
pub asked_next : (qs : List NumberedPlace) (most : ℕ) (is : List ℕ) (k i : ℕ) (known now new : List (Option ℕ)) (left new_left : List ℕ) → AreWithin qs known → k < length is → i ≡ get_or is k 0
    → WereAsked qs most k (take k is) known now left → WasAsked qs most i now new left new_left → WereAsked qs most (k + 1) (take (k + 1) is) known new new_left
asked_next qs most is k i known now new left new_left within l e before asked = elim asked [
  | inl h ↦ subst (λ (xs : List ℕ). WereAsked qs most (k + 1) (take (k + 1) is) known new xs) (sym h.2)
      (subst (λ (t : List (Option ℕ)). WereAsked qs most (k + 1) (take (k + 1) is) known t left) (sym h.1)
      (asked_nothing qs most is k i known now left l e before h.0))
  | inr (inl h) ↦ subst (λ (xs : List ℕ). WereAsked qs most (k + 1) (take (k + 1) is) known new xs) (sym h.5)
      (subst (λ (t : List (Option ℕ)). WereAsked qs most (k + 1) (take (k + 1) is) known t left) (sym h.4)
      (asked_shown qs most is k i known now left h.0 h.1 within l e before h.2 h.3))
  | inr (inr h) ↦ subst (λ (xs : List ℕ). WereAsked qs most (k + 1) (take (k + 1) is) known new xs) (sym h.4)
      (subst (λ (t : List (Option ℕ)). WereAsked qs most (k + 1) (take (k + 1) is) known t (left ++ i ∷ [])) (sym h.3)
      (asked_left qs most is k i known now left h.0 l e before h.1 h.2))
]

pub asked_all : (qs : List NumberedPlace) (most : ℕ) (is : List ℕ) (k : ℕ) (known new : List (Option ℕ)) (left : List ℕ) → length is ≤ k → k ≤ length is
    → WereAsked qs most k (take k is) known new left → WereAsked qs most (length is) is known new left
asked_all qs most is k known new left l m h =
    let e : k ≡ length is = omega arith in
    subst (λ (j : ℕ). WereAsked qs most j is known new left) e (subst (λ (xs : List ℕ). WereAsked qs most k xs known new left) (take_all k is l) h)

pub within_next : (qs : List NumberedPlace) (known new : List (Option ℕ)) → AreWithin qs known → length new ≡ length known → AreWithin qs new
within_next qs known new within e q c = let w = within q c in omega arith

-- What holds between the rounds: each place is known or still to be asked.
pub record AreWaiting (qs : List NumberedPlace) (most : ℕ) (known : List (Option ℕ)) (waiting : List ℕ) : Type 0 where
  pub sound : (places : List WeightedPlace) (numbers : BTreeMap Term ℕ) → AreNumbered places numbers qs → AreSound places most numbers known
  pub within : AreWithin qs known
  pub each : (i : ℕ) (q : NumberedPlace) → slice_get qs i ≡ Some q → IsKnown known q.node ⊎ Contains waiting i

none_known : (known : List (Option ℕ)) → NoneIsKnown known → (o : Option ℕ) → total_in known o ≡ None
none_known known none None = refl
none_known known none (Some i) = none i

pub all_waiting : (qs : List NumberedPlace) (most : ℕ) (known : List (Option ℕ)) (waiting : List ℕ) → NoneIsKnown known → AreWithin qs known → ((i : ℕ) → i < length qs → Contains waiting i)
    → AreWaiting qs most known waiting
all_waiting qs most known waiting none within all = record {
  sound = λ places numbers are n v e. absurd (let f = none_known known none (entry numbers n) in cc);
  within = within;
  each = λ i q e. inr (all i (got_within qs i q e));
}

pub waiting_next : (qs : List NumberedPlace) (most : ℕ) (known new : List (Option ℕ)) (waiting left : List ℕ) → AreWaiting qs most known waiting
    → WereAsked qs most (length waiting) waiting known new left → AreWaiting qs most new left
waiting_next qs most known new waiting left before asked = record {
  sound = λ places numbers are. asked.sound places numbers are (before.sound places numbers are);
  within = within_next qs known new before.within asked.room;
  each = λ i q e. elim (before.each i q e) [ inl k ↦ inl (asked.kept q.node k) | inr w ↦ asked.each i q w e ];
}

pub waiting_done : (qs : List NumberedPlace) (most : ℕ) (known new : List (Option ℕ)) (waiting left : List ℕ) → AreWaiting qs most known waiting
    → WereAsked qs most (length waiting) waiting known new left → length left ≡ length waiting → AreSettled qs most new
waiting_done qs most known new waiting left before asked same =
    let still = asked.still same in
    subst (λ (t : List (Option ℕ)). AreSettled qs most t) (sym still.0) (record {
      sound = before.sound;
      still = λ q c.
          let here = place_of qs q c in
          elim (before.each here.0 q here.1) [
            | inl known ↦ inl known
            | inr w ↦ inr (still.1 here.0 q w here.1)
          ];
    })

none_of : (n i : ℕ) → get_or (replicate {A = Option ℕ} n None) i None ≡ None
none_of zero i = refl
none_of (suc n) zero = refl
none_of (suc n) (suc i) = none_of n i

pub none_at_first : (n : ℕ) → NoneIsKnown (replicate n None)
none_at_first n i = none_of n i

not_none : (o : Option ℕ) (v : ℕ) → o ≡ Some v → o ≡ None → ⊥
not_none o v e f = cc

-- where nothing more is shown, all that have a total are known
all_known : (places : List WeightedPlace) (numbers : BTreeMap Term ℕ) (qs : List NumberedPlace) (known : List (Option ℕ)) → AreNumbered places numbers qs → ((q : NumberedPlace) → Contains qs q → IsKnown known q.node ⊎ LacksOne known q)
    → (d : ℕ) (n : Term) (k : ℕ) → TotalBy places d n k → (v : ℕ) × (total_known numbers known n ≡ Some v)
all_known places numbers qs known are still zero n k h = absurd h
all_known places numbers qs known are still (suc d) n k h =
    let q = zip_left (IsNumbered numbers) places qs are.each h.0 h.1 in
    elim (still q.0 q.1) [
      | inl is ↦ (is.0, subst (λ (x : Term). total_known numbers known x ≡ Some is.0) h.2 (ap (λ (o : Option ℕ). total_in known o) q.2.node ∙ is.1))
      | inr lacks ↦
          let m = mapped_has (entry numbers) h.0.to lacks.0 (subst (λ (js : List (Option ℕ)). Contains js lacks.0) q.2.to lacks.1) in
          let shown = sum_has (TotalBy places d) h.0.to h.3.0 h.3.1 m.0 m.1 in
          let there = all_known places numbers qs known are still d m.0 shown.0 shown.1 in
          absurd (not_none (total_known numbers known m.0) there.0 there.1 (ap (λ (o : Option ℕ). total_in known o) m.2 ∙ lacks.2))
    ]

-- a table of what is known in the end has the totals
pub told : (places : List WeightedPlace) (most : ℕ) (numbers : BTreeMap Term ℕ) (qs : List NumberedPlace) (known : List (Option ℕ)) (table : BTreeMap Term ℕ) → AreNumbered places numbers qs → AreSettled qs most known
    → Tells numbers known table → AreTotals places most table
told places most numbers qs known table are settled tells = record {
  sound = λ n v e. settled.sound places numbers are n v (tells.sound n v e);
  all = λ n k h.
      let there = all_known places numbers qs known are settled.still h.0 n k h.1 in
      tells.all n there.0 there.1;
}
