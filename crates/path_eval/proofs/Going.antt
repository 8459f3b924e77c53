-- A walker that goes on: from its parts, and what it has led to in all.
use Rattle.std.proofs.Common.{◌≡◌, ◌∙◌, ℕ, suc, zero, ◌+◌, ◌≤◌, List, [], ◌∷◌, ◌++◌, length, take, drop, Bool, Box, Global, refl, sym, subst, ap, arith, inl, inr, append_assoc}
use Rattle.std.specs.Prelude.{◌⊎◌}
use Rattle.std.specs.List.{Contains}
use Rattle.std.specs.Ordering.{nat_cmp}
use Rattle.std.proofs.lemmas.List.{append-nil, take-append-drop, take_all, length-append, drop-append-le}
use Rattle.std.proofs.Math.Seq.{take-append_seam, drop-append_seam}
use Rattle.std.proofs.lemmas.List.Elements.{Contains-append_left, Contains-append_right, Contains-append_cases}
use Rattle.collections.specs.Listings.{IsListing}
use Rattle.rdf_model.specs.declared.ids.Ids.{Ids}
use Rattle.rdf_model.specs.declared.look.Look.{Look}
use Rattle.rdf_model.specs.Numbers.{IsFound}
use Rattle.path_eval.specs.declared.walker.Walker.{Walker, Here, Nowhere, Edges, Then, Either, More, Then', Either', More'}
use Rattle.path_eval.specs.Relations.{Enters, FromSome, IsFollowed, Repeated}
use Rattle.path_eval.specs.NumberedWalks.{look_from}
use Rattle.path_eval.specs.NumberedLooks.{AtRepeated}
use Rattle.path_eval.specs.Walkers.{Advances, Again, Along, Explores, Goes, GoesOn, IsClosed, OneOrOther, OneThenOther, Plan, Sees, Stay, Stop, Within, plan_of}
use Rattle.path_eval.proofs.Growing.{listing_same}
use Rattle.path_eval.proofs.Closure.{closed_chain, from_back, no_start, then_step}

-- how many parts a plan has: the measure of a recursion along it
abbrev pub plan_size : Plan → ℕ
plan_size Stay = 0
plan_size Stop = 0
plan_size (Along reversed p) = 0
plan_size (OneThenOther a b) = plan_size a + plan_size b + 1
plan_size (OneOrOther a b) = plan_size a + plan_size b + 1
plan_size (Again a) = plan_size a + 1

-- a part has fewer
module _ (w : Walker) (first second : Box Walker Global) where
  pub then_size : w ≡ Then first second → plan_size (plan_of w) ≡ plan_size (plan_of first.value) + plan_size (plan_of second.value) + 1
  then_size e = ap (λ (v : Walker). plan_size (plan_of v)) e

  pub either_size : w ≡ Either first second → plan_size (plan_of w) ≡ plan_size (plan_of first.value) + plan_size (plan_of second.value) + 1
  either_size e = ap (λ (v : Walker). plan_size (plan_of v)) e

pub more_size : (w : Walker) (inner : Box Walker Global) (entered : List ℕ) → w ≡ More inner entered → plan_size (plan_of w) ≡ plan_size (plan_of inner.value) + 1
more_size w inner entered e = ap (λ (v : Walker). plan_size (plan_of v)) e

pub size_same : (v w : Walker) → v ≡ w → plan_size (plan_of v) ≡ plan_size (plan_of w)
size_same v w e = ap (λ (v : Walker). plan_size (plan_of v)) e

pub same_size : (a b : Plan) → a ≡ b → plan_size a ≡ plan_size b
same_size a b e = ap plan_size e

pub drop_within : {X : Type 0} → (from done : ℕ) (xs : List X) → from ≤ done → Within (drop done xs) (drop from xs)
drop_within zero done xs le x c = from_back done xs x c
drop_within (suc f) zero xs le x c = absurd (omega (arith, le))
drop_within (suc f) (suc d) [] le x c = c
drop_within (suc f) (suc d) (y ∷ ys) le x c = drop_within f d ys (omega (arith, le)) x c

within_both : {X : Type 0} → (us bs cs ds : List X) → Within us cs → Within bs ds → Within (us ++ bs) (cs ++ ds)
within_both us bs cs ds h k x c = elim (Contains-append_cases us bs x c) [ inl d ↦ Contains-append_left cs ds x (h x d) | inr d ↦ Contains-append_right cs ds x (k x d) ]

module _ (ids : List Ids) where
  -- it has gone on from fewer, to more
  pub wider : (w : Walker) (ins ins' outs outs' : List ℕ) (looks more : List (Look ℕ)) → Within ins' ins → Within outs outs' → Within looks more → IsClosed ids w ins outs looks → IsClosed ids w ins' outs' more
  wider Here ins ins' outs outs' looks more i o l c = λ x h. o x (c x (i x h))
  wider Nowhere ins ins' outs outs' looks more i o l c = tt
  wider (Edges p reversed seen) ins ins' outs outs' looks more i o l c = (λ x h. c.0 x (i x h), λ x h. let k = c.1 x h in (l (look_from reversed p x) k.0, λ y f. o y (k.1 y f)))
  wider (Then' _ a _ b) ins ins' outs outs' looks more i o l c = (c.0, wider a ins ins' c.0 c.0 looks more i (λ x h. h) l c.1, wider b c.0 c.0 outs outs' looks more (λ x h. h) o l c.2)
  wider (Either' _ a _ b) ins ins' outs outs' looks more i o l c = (wider a ins ins' outs outs' looks more i o l c.0, wider b ins ins' outs outs' looks more i o l c.1)
  wider (More' _ a entered) ins ins' outs outs' looks more i o l c =
      (wider a (ins ++ entered) (ins' ++ entered) entered entered looks more (within_both ins' entered ins entered i (λ x h. h)) (λ x h. h) l c.0, λ x h. o x (c.1 x h))

  -- it has led to all that can be reached
  pub ends_closed : (w : Walker) (ins outs : List ℕ) (looks : List (Look ℕ)) → IsClosed ids w ins outs looks → (x y : ℕ) → Contains ins x → Goes ids (plan_of w) x y → Contains outs y
  ends_closed Here ins outs looks c x y i r = subst (λ (a : ℕ). Contains outs a) r (c x i)
  ends_closed Nowhere ins outs looks c x y i r = absurd r
  ends_closed (Edges p reversed seen) ins outs looks c x y i r = (c.1 x (c.0 x i)).1 y r
  ends_closed (Then' _ a _ b) ins outs looks c x y i r = ends_closed b c.0 outs looks c.2 r.0 y (ends_closed a ins c.0 looks c.1 x r.0 i r.1) r.2
  ends_closed (Either' _ a _ b) ins outs looks c x y i r = elim r [ inl r ↦ ends_closed a ins outs looks c.0 x y i r | inr r ↦ ends_closed b ins outs looks c.1 x y i r ]
  ends_closed (More' _ a entered) ins outs looks c x y i r =
      let step = λ (v w : ℕ) (h : Contains (ins ++ entered) v) (s : Goes ids (plan_of a) v w). ends_closed a (ins ++ entered) entered looks c.0 v w h s in
      c.1 y (closed_chain (Goes ids (plan_of a)) entered (λ v w h s. step v w (Contains-append_right ins entered v h) s) r.2.0 r.0 y (step x r.0 (Contains-append_left ins entered x i) r.1) r.2.1)

  -- and all looks that this takes are there
  pub looks_closed : (w : Walker) (ins outs : List ℕ) (looks : List (Look ℕ)) → IsClosed ids w ins outs looks → (x : ℕ) (look : Look ℕ) → Contains ins x → Sees ids (plan_of w) x look → Contains looks look
  looks_closed Here ins outs looks c x look i s = absurd s
  looks_closed Nowhere ins outs looks c x look i s = absurd s
  looks_closed (Edges p reversed seen) ins outs looks c x look i s = subst (λ (l : Look ℕ). Contains looks l) (sym s) (c.1 x (c.0 x i)).0
  looks_closed (Then' _ a _ b) ins outs looks c x look i s = elim s [
    | inl s ↦ looks_closed a ins c.0 looks c.1 x look i s
    | inr s ↦ looks_closed b c.0 outs looks c.2 s.0 look (ends_closed a ins c.0 looks c.1 x s.0 i s.1) s.2
  ]
  looks_closed (Either' _ a _ b) ins outs looks c x look i s = elim s [ inl s ↦ looks_closed a ins outs looks c.0 x look i s | inr s ↦ looks_closed b ins outs looks c.1 x look i s ]
  looks_closed (More' _ a entered) ins outs looks c x look i s =
      let step = λ (v w : ℕ) (h : Contains (ins ++ entered) v) (r : Goes ids (plan_of a) v w). Contains-append_right ins entered w (ends_closed a (ins ++ entered) entered looks c.0 v w h r) in
      looks_closed a (ins ++ entered) entered looks c.0 s.0 look (closed_chain (Goes ids (plan_of a)) (ins ++ entered) step s.1.0 x s.0 (Contains-append_left ins entered x i) s.1.1) s.2

  pub here_on : (starts ends : List ℕ) (looks : List (Look ℕ)) → ends ≡ starts → GoesOn ids Here Here starts looks looks ends
  here_on starts ends looks e = subst (λ (l : List ℕ). GoesOn ids Here Here starts looks looks l) (sym e) (record {
    kept = refl;
    sound = λ y c. (y, c, refl);
    grown = λ look c. c;
    read = λ look c. inl c;
    closed = λ ins outs c. within_both ins starts outs starts c (λ x h. h);
  })

  pub nowhere_on : (starts ends : List ℕ) (looks : List (Look ℕ)) → ends ≡ [] → GoesOn ids Nowhere Nowhere starts looks looks ends
  nowhere_on starts ends looks e = subst (λ (l : List ℕ). GoesOn ids Nowhere Nowhere starts looks looks l) (sym e) (record {
    kept = refl;
    sound = λ y c. absurd (no_start y c);
    grown = λ look c. c;
    read = λ look c. inl c;
    closed = λ ins outs c. tt;
  })

  pub edges_on : (p : ℕ) (reversed : Bool) (seen seen' starts ends : List ℕ) (looks more : List (Look ℕ)) → Enters seen seen' (Contains starts)
      → IsFollowed (drop (length seen) seen') (λ x y. IsFound (look_from reversed p x) ids y) (λ x look. look ≡ look_from reversed p x) looks more ends
      → GoesOn ids (Edges p reversed seen) (Edges p reversed seen') starts looks more ends
  edges_on p reversed seen seen' starts ends looks more e h =
      let new : drop (length seen) seen' ≡ e.more = ap (drop (length seen)) e.extended ∙ drop-append_seam seen e.more in
      let only : Within (drop (length seen) seen') starts = λ x c. e.only x (subst (λ (l : List ℕ). Contains l x) new c) in
      let grown : Within looks more = λ look c. (h.looks look).1 (inl c) in
      record {
        kept = refl;
        sound = λ y c. let k = (h.listed.members y).0 c in (k.0, only k.0 k.1, k.2);
        grown = grown;
        read = λ look c. elim ((h.looks look).0 c) [ inl d ↦ inl d | inr d ↦ inr (d.0, only d.0 d.1, d.2) ];
        closed = λ ins outs c. (
          λ x i. elim (Contains-append_cases ins starts x i) [ inl d ↦ (e.members x).1 (inl (c.0 x d)) | inr d ↦ (e.members x).1 (inr d) ],
          λ x i. elim (Contains-append_cases seen e.more x (subst (λ (l : List ℕ). Contains l x) e.extended i)) [
            | inl d ↦ (grown (look_from reversed p x) (c.1 x d).0, λ y f. Contains-append_left outs ends y ((c.1 x d).1 y f))
            | inr d ↦ let b = subst (λ (l : List ℕ). Contains l x) (sym new) d in
                ((h.looks (look_from reversed p x)).1 (inr (x, b, refl)), λ y f. Contains-append_right outs ends y ((h.listed.members y).1 (x, b, f)))
          ],
        );
      }

  module _ (first first' second second' : Box Walker Global) (starts : List ℕ) (looks mid more : List (Look ℕ)) where
    pub then_on : (middle level ends : List ℕ) → level ≡ middle → GoesOn ids first.value first'.value starts looks mid middle → GoesOn ids second.value second'.value level mid more ends
        → GoesOn ids (Then first second) (Then first' second') starts looks more ends
    then_on middle level ends same h k' =
        let k = subst (λ (l : List ℕ). GoesOn ids second.value second'.value l mid more ends) same k' in
        record {
          kept = λ i. OneThenOther (h.kept i) (k.kept i);
          sound = λ y c. let b = k.sound y c in let a = h.sound b.0 b.1 in (a.0, a.1, (b.0, a.2, b.2));
          grown = λ look c. k.grown look (h.grown look c);
          read = λ look c. elim (k.read look c) [
            | inl d ↦ elim (h.read look d) [ inl e ↦ inl e | inr e ↦ inr (e.0, e.1, inl e.2) ]
            | inr d ↦ let a = h.sound d.0 d.1 in inr (a.0, a.1, inr (d.0, a.2, d.2))
          ];
          closed = λ ins outs c. (
            c.0 ++ middle,
            wider first'.value (ins ++ starts) (ins ++ starts) (c.0 ++ middle) (c.0 ++ middle) mid more (λ x i. i) (λ x i. i) k.grown (h.closed ins c.0 c.1),
            k.closed c.0 outs (wider second.value c.0 c.0 outs outs looks mid (λ x i. i) (λ x i. i) h.grown c.2),
          );
        }

    pub either_on : (ends others both : List ℕ) → both ≡ ends ++ others → GoesOn ids first.value first'.value starts looks mid ends → GoesOn ids second.value second'.value starts mid more others
        → GoesOn ids (Either first second) (Either first' second') starts looks more both
    either_on ends others both e h k = subst (λ (l : List ℕ). GoesOn ids (Either first second) (Either first' second') starts looks more l) (sym e) (record {
      kept = λ i. OneOrOther (h.kept i) (k.kept i);
      sound = λ y c. elim (Contains-append_cases ends others y c) [
        | inl d ↦ let a = h.sound y d in (a.0, a.1, inl a.2)
        | inr d ↦ let a = k.sound y d in (a.0, a.1, inr a.2)
      ];
      grown = λ look c. k.grown look (h.grown look c);
      read = λ look c. elim (k.read look c) [
        | inl d ↦ elim (h.read look d) [ inl e ↦ inl e | inr e ↦ inr (e.0, e.1, inl e.2) ]
        | inr d ↦ inr (d.0, d.1, inr d.2)
      ];
      closed = λ ins outs c. (
        wider first'.value (ins ++ starts) (ins ++ starts) (outs ++ ends) (outs ++ (ends ++ others)) mid more (λ x i. i) (within_both outs ends outs (ends ++ others) (λ x i. i) (Contains-append_left ends others)) k.grown (h.closed ins outs c.0),
        wider second'.value (ins ++ starts) (ins ++ starts) (outs ++ others) (outs ++ (ends ++ others)) more more (λ x i. i) (within_both outs others outs (ends ++ others) (λ x i. i) (Contains-append_right ends others)) (λ x i. i)
            (k.closed ins outs (wider second.value ins ins outs outs looks mid (λ x i. i) (λ x i. i) h.grown c.1)),
      );
    })

  -- one level
  pub advances : (old new : Walker) (done : ℕ) (entered entered' level ends ends' : List ℕ) (looks more : List (Look ℕ)) → level ≡ drop done entered → ends' ≡ ends → GoesOn ids old new level looks more ends
      → Enters entered entered' (Contains ends') → Advances ids old new done entered entered' looks more
  advances old new done entered entered' level ends ends' looks more at same h e = record {
    ends = ends;
    on = subst (λ (l : List ℕ). GoesOn ids old new l looks more ends) at h;
    added = e.more;
    extended = e.extended;
    only = λ x c. subst (λ (l : List ℕ). Contains l x) same (e.only x c);
    all = λ x c. (e.members x).1 (inr (subst (λ (l : List ℕ). Contains l x) (sym same) c));
  }

  -- no level, and one level more
  pub explores_none : (w : Walker) (from : ℕ) (entered : List ℕ) (looks : List (Look ℕ)) → from ≤ length entered → Explores ids w w from from entered entered looks looks
  explores_none w from entered looks le = record {
    ordered = omega arith;
    counted = le;
    kept = refl;
    added = [];
    extended = sym (append-nil entered);
    sound = λ y c. (y, c, ([], refl));
    grown = λ look c. c;
    read = λ look c. inl c;
    closed = λ ins c. c;
  }

  pub explores_more : (old mid new : Walker) (from done : ℕ) (first entered entered' : List ℕ) (looks some more : List (Look ℕ)) → from ≤ length first → Explores ids old mid from done first entered looks some
      → Advances ids mid new done entered entered' some more → Explores ids old new from (length entered) first entered' looks more
  explores_more old mid new from done first entered entered' looks some more le h k =
      let P = plan_of old in
      let step = subst (λ (p : Plan). (y : ℕ) → Contains k.ends y → FromSome (drop done entered) (Goes ids p) y) h.kept k.on.sound in
      let sees = subst (λ (p : Plan). (look : Look ℕ) → Contains more look → Contains some look ⊎ FromSome (drop done entered) (Sees ids p) look) h.kept k.on.read in
      let whole : from ≤ length entered = omega (arith, h.ordered, h.counted) in
      let split : drop from entered' ≡ drop from entered ++ k.added = ap (drop from) k.extended ∙ drop-append-le from entered k.added whole in
      let front : take (length entered) entered' ≡ entered = ap (take (length entered)) k.extended ∙ take-append_seam entered k.added in
      let inside : Within entered entered' = λ x c. subst (λ (l : List ℕ). Contains l x) (sym k.extended) (Contains-append_left entered k.added x c) in
      record {
        ordered = whole;
        counted = subst (λ (l : List ℕ). length entered ≤ length l) (sym k.extended) (omega (arith, length-append entered k.added));
        kept = k.on.kept ∙ h.kept;
        added = h.added ++ k.added;
        extended = k.extended ∙ ap (λ (l : List ℕ). l ++ k.added) h.extended ∙ append_assoc first h.added k.added;
        sound = λ y c. elim (Contains-append_cases (drop from entered) k.added y (subst (λ (l : List ℕ). Contains l y) split c)) [
          | inl d ↦ h.sound y d
          | inr d ↦ let s = step y (k.only y d) in let b = h.sound s.0 (drop_within from done entered h.ordered s.0 s.1) in (b.0, b.1, then_step (Goes ids P) b.0 s.0 y b.2 s.2)
        ];
        grown = λ look c. k.on.grown look (h.grown look c);
        read = λ look c. elim (sees look c) [
          | inl d ↦ h.read look d
          | inr d ↦ let b = h.sound d.0 (drop_within from done entered h.ordered d.0 d.1) in inr (b.0, b.1, (d.0, b.2, d.2))
        ];
        closed = λ ins c. wider new ((ins ++ take done entered) ++ drop done entered) (ins ++ take (length entered) entered') (entered ++ k.ends) entered' more more
            (λ x i. subst (λ (l : List ℕ). Contains l x) (ap (λ (l : List ℕ). ins ++ l) (front ∙ sym (take-append-drop done entered)) ∙ sym (append_assoc ins (take done entered) (drop done entered))) i)
            (λ x i. elim (Contains-append_cases entered k.ends x i) [ inl d ↦ inside x d | inr d ↦ k.all x d ]) (λ look i. i) (k.on.closed (ins ++ take done entered) entered (h.closed ins c));
      }

  -- by a part once, and then on and on
  pub more_on : (inner inner' : Box Walker Global) (mid : Walker) (from : ℕ) (starts first first' ends entered middle entered' : List ℕ) (looks some more : List (Look ℕ)) → from ≡ length entered → first' ≡ first
      → GoesOn ids inner.value mid starts looks some first → Enters entered middle (Contains first') → Explores ids mid inner'.value from (length entered') middle entered' some more
      → ends ≡ drop from entered' → GoesOn ids (More inner entered) (More inner' entered') starts looks more ends
  more_on inner inner' mid from starts first first' ends entered middle entered' looks some more at same h e' k' to =
      let P = plan_of inner.value in
      let e = subst (λ (l : List ℕ). Enters entered middle (Contains l)) same e' in
      let k = subst (λ (n : ℕ). Explores ids mid inner'.value n (length entered') middle entered' some more) at k' in
      let start = length entered in
      let is : ends ≡ drop start entered' = to ∙ ap (λ (n : ℕ). drop n entered') at in
      let new : drop start middle ≡ e.more = ap (drop start) e.extended ∙ drop-append_seam entered e.more in
      let old : take start middle ≡ entered = ap (take start) e.extended ∙ take-append_seam entered e.more in
      let steps = subst (λ (p : Plan). (y : ℕ) → Contains (drop start entered') y → FromSome (drop start middle) (Repeated (Goes ids p)) y) h.kept k.sound in
      let sees = subst (λ (p : Plan). (look : Look ℕ) → Contains more look → Contains some look ⊎ FromSome (drop start middle) (AtRepeated (Goes ids p) (Sees ids p)) look) h.kept k.read in
      let once : (x : ℕ) → Contains (drop start middle) x → FromSome starts (Goes ids P) x = λ x c. h.sound x (e.only x (subst (λ (l : List ℕ). Contains l x) new c)) in
      let parts : entered' ≡ entered ++ (e.more ++ k.added) = k.extended ∙ ap (λ (l : List ℕ). l ++ k.added) e.extended ∙ append_assoc entered e.more k.added in
      let rest : drop start entered' ≡ e.more ++ k.added = ap (drop start) parts ∙ drop-append_seam entered (e.more ++ k.added) in
      record {
        kept = ap Again (k.kept ∙ h.kept);
        sound = λ y c. let s = steps y (subst (λ (l : List ℕ). Contains l y) is c) in let b = once s.0 s.1 in (b.0, b.1, (s.0, b.2, s.2));
        grown = λ look c. k.grown look (h.grown look c);
        read = λ look c. elim (sees look c) [
          | inl d ↦ elim (h.read look d) [ inl i ↦ inl i | inr i ↦ inr (i.0, i.1, (i.0, ([], refl), i.2)) ]
          | inr d ↦ let b = once d.0 d.1 in inr (b.0, b.1, (d.2.0, (d.0 ∷ d.2.1.0, (b.2, d.2.1.1)), d.2.2))
        ];
        closed = λ ins outs c.
            let a = wider mid ((ins ++ entered) ++ starts) ((ins ++ starts) ++ take start middle) (entered ++ first) middle some some
            (λ x i. elim (Contains-append_cases (ins ++ starts) (take start middle) x i) [
              | inl d ↦ elim (Contains-append_cases ins starts x d) [
                | inl d ↦ Contains-append_left (ins ++ entered) starts x (Contains-append_left ins entered x d)
                | inr d ↦ Contains-append_right (ins ++ entered) starts x d
              ]
              | inr d ↦ Contains-append_left (ins ++ entered) starts x (Contains-append_right ins entered x (subst (λ (l : List ℕ). Contains l x) old d))
            ])
            (λ x i. (e.members x).1 (Contains-append_cases entered first x i)) (λ look i. i) (h.closed (ins ++ entered) entered c.0) in (
              subst (λ (l : List ℕ). IsClosed ids inner'.value ((ins ++ starts) ++ l) entered' more) (take_all (length entered') entered' (omega arith)) (k.closed (ins ++ starts) a),
              λ x i. elim (Contains-append_cases entered (e.more ++ k.added) x (subst (λ (l : List ℕ). Contains l x) parts i)) [
                | inl d ↦ Contains-append_left outs ends x (c.1 x d)
                | inr d ↦ Contains-append_right outs ends x (subst (λ (l : List ℕ). Contains l x) (sym (is ∙ rest)) d)
              ],
            );
      }

  -- what a new walker leads to from its first starts
  pub follows : (old new : Walker) (starts ends sorted : List ℕ) (looks more : List (Look ℕ)) → IsClosed ids old [] [] looks → GoesOn ids old new starts looks more ends → IsListing nat_cmp (Contains ends) sorted
      → IsFollowed starts (Goes ids (plan_of old)) (Sees ids (plan_of old)) looks more sorted
  follows old new starts ends sorted looks more fresh h n =
      let closed : IsClosed ids new starts ends more = h.closed [] [] fresh in
      let reaches = subst (λ (p : Plan). (x y : ℕ) → Contains starts x → Goes ids p x y → Contains ends y) h.kept (ends_closed new starts ends more closed) in
      let sees = subst (λ (p : Plan). (x : ℕ) (look : Look ℕ) → Contains starts x → Sees ids p x look → Contains more look) h.kept (looks_closed new starts ends more closed) in
      record {
        listed = listing_same nat_cmp (Contains ends) (FromSome starts (Goes ids (plan_of old))) (λ y. (h.sound y, λ s. reaches s.0 y s.1 s.2)) sorted n;
        looks = λ look. (h.read look, elim [ inl c ↦ h.grown look c | inr s ↦ sees s.0 look s.1 s.2 ]);
      }
