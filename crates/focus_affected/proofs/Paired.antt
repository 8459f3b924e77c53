-- Pairs of a shape and a focus node, plan by plan.
use Rattle.std.proofs.Common.{◌≡◌, ◌∙◌, ℕ, ◌+◌, ◌<◌, ◌≤◌, List, [], ◌∷◌, ◌++◌, length, map, take, get_or, refl, sym, ap, subst, arith, inl, inr}
use Rattle.std.specs.Prelude.{◌⊎◌, ◌↔◌}
use Rattle.std.specs.List.{AllByRecursion, Contains, filter_map}
use Rattle.std.specs.Ordering.{nat_cmp}
use Rattle.std.proofs.lemmas.List.{get_or_default, take_all}
use Rattle.collections.specs.Listings.{IsListing}
use Rattle.collections.specs.Pairs.{pair_cmp}
use Rattle.collections.proofs.Members.{has_cases, has_head, has_tail}
use Rattle.rdf_model.specs.declared.term.Term.{Term}
use Rattle.rdf_model.specs.declared.triple.Triple.{Triple}
use Rattle.rdf_model.specs.declared.change.Change.{Change}
use Rattle.rdf_model.specs.declared.ids.Ids.{Ids}
use Rattle.rdf_model.specs.declared.look.Look.{Look}
use Rattle.rdf_model.specs.Numbers.{AreNumbered, IsNumbering, graph_of, term_at, triple_at}
use Rattle.rdf_model.proofs.Finding.{from_given}
use Rattle.shape_model.specs.Looks.{LookRow}
use Rattle.shape_model.specs.ShapeLooks.{Looks}
use Rattle.shape_model.specs.Touching.{Touched}
use Rattle.path_eval.proofs.Footprints.{looks_same}
use Rattle.path_eval.proofs.Mirrors.{mapped_from, mapped_to}
use Rattle.change_laws.specs.Pairs.{FindingLook}
use Rattle.focus_affected.specs.declared.plan.NumberedLook.{NumberedLook}
use Rattle.focus_affected.specs.declared.plan.ShapePlan.{ShapePlan}
use Rattle.focus_affected.specs.declared.plan.NumberedKind.{NumberedKind}
use Rattle.focus_affected.specs.declared.plan.NumberedKind.TheVariants.{Out, In, OutAny}
use Rattle.focus_affected.specs.declared.index.RowPlace.{RowPlace}
use Rattle.focus_affected.specs.Plans.{AreBoundPlans, IsBoundLookRow, IsBoundPlan, kind_of, node_in, row_of}
use Rattle.focus_affected.specs.Index.{HasRow, IsAskedOf, IsItem, IsKindAt, IsRowAt}
use Rattle.focus_affected.specs.Finding.{ArePairs, FindsAt, FindsAtSome, FindsBy, FindsWith, FindsWithAt, FindsWithSome, IsMatched, IsTouchedAt, IsTouchedBy, IsTouchedBySome, WherePlans}
use Rattle.focus_affected.specs.Touched.{AddsTouchLooks, AreChanged, ArePlaced, ArePlans, ListsTouched}
use Rattle.focus_affected.proofs.Found.{next_found, none_found, pairs_from, pairs_same}
use Rattle.focus_affected.proofs.Matched.{chosen, from_matched}

all_from : {X : Type 0} → (P : X → Type 0) (xs : List X) → ((x : X) → Contains xs x → P x) → AllByRecursion P xs
all_from P [] h = tt
all_from P (x ∷ xs) h = (h x (has_head x xs), all_from P xs (λ y c. h y (has_tail x xs y c)))

all_to : {X : Type 0} → (P : X → Type 0) (xs : List X) → AllByRecursion P xs → (x : X) → Contains xs x → P x
all_to P [] a x c = absurd (omega (arith, c.1))
all_to P (y ∷ ys) a x c = elim (has_cases y ys x c) [ inl e ↦ subst P e a.0 | inr d ↦ all_to P ys a.1 x d ]

-- the row at a place
module _ (plans : List ShapePlan) (at : RowPlace) (plan : ShapePlan) (look : NumberedLook) (is : IsRowAt plans at plan look) where
  same_plan : (p : ShapePlan) (l : NumberedLook) → IsRowAt plans at p l → plan ≡ p
  same_plan p l o = sym is.of_plans.1 ∙ (get_or_default plans at.plan plan p is.of_plans.0 ∙ o.of_plans.1)

  same_look : (p : ShapePlan) (l : NumberedLook) → IsRowAt plans at p l → look ≡ l
  same_look p l o =
      let there : IsItem plan.looks at.look l = subst (λ (q : ShapePlan). IsItem q.looks at.look l) (sym (same_plan p l o)) o.of_plan in
      sym is.of_plan.1 ∙ (get_or_default plan.looks at.look look l is.of_plan.0 ∙ there.1)

  pub row_bound : (n : ℕ) → AreBoundPlans n plans → IsBoundLookRow n look
  row_bound n bound =
      let here : IsBoundPlan n plan = subst (λ (q : ShapePlan). IsBoundPlan n q) is.of_plans.1 (bound at.plan plan is.of_plans.0) in
      subst (λ (l : NumberedLook). IsBoundLookRow n l) is.of_plan.1 (here.looks at.look look is.of_plan.0)

  pub found_there : (ids changed : List Ids) (nodes : List ℕ) (old new : List (Look ℕ)) → FindsBy ids look changed nodes old new
      → WherePlans ids plans changed (λ terms. FindsAt terms ids changed plans at (map (λ n. (plan.place, n)) nodes) old new)
  found_there ids changed nodes old new by terms numbering numbered marked bound =
      let g = graph_of terms ids in
      let ts = graph_of terms changed in
      let row = row_of terms look in
      record {
        found_at = pairs_same terms (λ p f. (plan.place ≡ p) × IsTouchedBy g ts row f) (IsTouchedAt terms g ts plans at) (FindsWith g ts row) (FindsWithAt terms g ts plans at) (map (λ n. (plan.place, n)) nodes) old new
            (λ p f. (
              λ h. (plan, look, is, h),
              λ h. (
                subst (λ (q : ShapePlan). q.place ≡ p) (sym (same_plan h.0 h.1 h.2)) h.3.0,
                subst (λ (l : NumberedLook). IsTouchedBy g ts (row_of terms l) f) (sym (same_look h.0 h.1 h.2)) h.3.1,
              ),
            ))
            (λ l. (λ h. (plan, look, is, h), λ h. subst (λ (m : NumberedLook). FindsWith g ts (row_of terms m) l) (sym (same_look h.0 h.1 h.2)) h.3))
            (pairs_from terms (IsTouchedBy g ts row) (FindsWith g ts row) plan.place nodes old new (by terms numbering numbered marked (row_bound (length terms) bound)));
      }

-- what has a row at the place has one of the plan there
pub item_at : (plans : List ShapePlan) (at : RowPlace) (plan : ShapePlan) → plan ≡ get_or plans at.plan plan → HasRow plans at → (look : NumberedLook) × IsItem plan.looks at.look look
item_at plans at plan is h =
    let same : h.0 ≡ plan = sym h.2.of_plans.1 ∙ (get_or_default plans at.plan h.0 plan h.2.of_plans.0 ∙ sym is) in
    (h.1, subst (λ (p : ShapePlan). IsItem p.looks at.look h.1) same h.2.of_plan)

-- row by row
module _ (ids : List Ids) (plans : List ShapePlan) (places : List RowPlace) (changed : List Ids) where
  pub no_row : (xs : List (ℕ × ℕ)) (old : List (Look ℕ)) → xs ≡ [] → WherePlans ids plans changed (λ terms. FindsAtSome terms ids changed plans [] xs old old)
  no_row xs old e terms numbering numbered marked bound = record {
    found_at_some = none_found terms (IsTouchedAt terms (graph_of terms ids) (graph_of terms changed) plans) (FindsWithAt terms (graph_of terms ids) (graph_of terms changed) plans) xs old e;
  }

  pub next_row : (i : ℕ) (at : RowPlace) (xs ys zs : List (ℕ × ℕ)) (old mid new : List (Look ℕ)) → i < length places → at ≡ get_or places i at → zs ≡ xs ++ ys
      → WherePlans ids plans changed (λ terms. FindsAtSome terms ids changed plans (take i places) xs old mid)
      → WherePlans ids plans changed (λ terms. FindsAt terms ids changed plans at ys mid new)
      → WherePlans ids plans changed (λ terms. FindsAtSome terms ids changed plans (take (i + 1) places) zs old new)
  next_row i at xs ys zs old mid new lt is e before here terms numbering numbered marked bound = record {
    found_at_some = next_found terms (IsTouchedAt terms (graph_of terms ids) (graph_of terms changed) plans) (FindsWithAt terms (graph_of terms ids) (graph_of terms changed) plans)
        places i at lt is xs ys zs e old mid new (before terms numbering numbered marked bound).found_at_some (here terms numbering numbered marked bound).found_at;
  }

  pub all_rows : (i : ℕ) (xs : List (ℕ × ℕ)) (old new : List (Look ℕ)) → length places ≤ i → WherePlans ids plans changed (λ terms. FindsAtSome terms ids changed plans (take i places) xs old new)
      → WherePlans ids plans changed (λ terms. FindsAtSome terms ids changed plans places xs old new)
  all_rows i xs old new le all terms numbering numbered marked bound = subst (λ (ats : List RowPlace). FindsAtSome terms ids changed plans ats xs old new) (take_all i places le) (all terms numbering numbered marked bound)

-- the rows that may match are all that do
module _ (ids : List Ids) (plans : List ShapePlan) (changed : List Ids) (predicates : List ℕ) (listed : IsListing nat_cmp (Contains (map (λ (i : Ids). i.predicate) changed)) predicates)
    (places : List RowPlace) (asked : (at : RowPlace) → Contains places at ↔ ((kind : NumberedKind) × IsKindAt plans at kind × IsAskedOf predicates kind)) where
  pub has_rows : (at : RowPlace) → Contains places at → HasRow plans at
  has_rows at c = let k = (asked at).0 c in (k.1.0, k.1.1, k.1.2)

  is_asked : (kind : NumberedKind) (n : ℕ) → Contains (filter_map (node_in kind) changed) n → IsAskedOf predicates kind
  is_asked (Out p) n c =
      let g = from_given (node_in (Out p)) changed n c in
      let e = chosen p g.0.predicate g.0.subject n g.2 in
      inr (p, (listed.members p).1 (subst (λ (q : ℕ). Contains (map (λ (i : Ids). i.predicate) changed) q) (sym e.0) (mapped_to (λ (i : Ids). i.predicate) changed g.0 g.1)), refl)
  is_asked (In p) n c =
      let g = from_given (node_in (In p)) changed n c in
      let e = chosen p g.0.predicate g.0.object n g.2 in
      inr (p, (listed.members p).1 (subst (λ (q : ℕ). Contains (map (λ (i : Ids). i.predicate) changed) q) (sym e.0) (mapped_to (λ (i : Ids). i.predicate) changed g.0 g.1)), refl)
  is_asked OutAny n c = inl refl

  module _ (terms : List Term) (numbering : IsNumbering terms) (marked : AreNumbered terms changed) (bound : AreBoundPlans (length terms) plans) where
    -- what holds of no row that isn't matched, of a row at one of the places and of one of some plan
    each_row : (Q : ShapePlan → NumberedLook → Type 0) → ((plan : ShapePlan) (l : NumberedLook) → Q plan l → (z : Term) × IsMatched (graph_of terms changed) (kind_of terms l.kind) z)
        → ((at : RowPlace) × Contains places at × ((plan : ShapePlan) × (l : NumberedLook) × IsRowAt plans at plan l × Q plan l)) ↔ ((plan : ShapePlan) × Contains plans plan × ((l : NumberedLook) × Contains plan.looks l × Q plan l))
    each_row Q matched = (
      λ h.
          let r = h.2 in
          let row = r.2 in
          (r.0, (h.0.plan, row.of_plans.0, row.of_plans.1), (r.1, (h.0.look, row.of_plan.0, row.of_plan.1), r.3)),
      λ h.
          let plan = h.0 in
          let l = h.2.0 in
          let at : RowPlace = record { plan = h.1.0; look = h.2.1.0 } in
          let row : IsRowAt plans at plan l = record { of_plans = (h.1.1, h.1.2); of_plan = (h.2.1.1, h.2.1.2) } in
          let m = matched plan l h.2.2 in
          let n = from_matched terms numbering changed marked l.kind (row_bound plans at plan l row (length terms) bound).kind m.0 m.1 in
          (at, (asked at).1 (l.kind, (plan, l, row, refl), is_asked l.kind n.0 n.1), (plan, l, row, h.2.2)),
    )

  pub by_index : (pairs : List (ℕ × ℕ)) (old new : List (Look ℕ)) → WherePlans ids plans changed (λ terms. FindsAtSome terms ids changed plans places pairs old new)
      → WherePlans ids plans changed (λ terms. ArePairs terms ids changed plans pairs old new)
  by_index pairs old new found terms numbering numbered marked bound =
      let g = graph_of terms ids in
      let ts = graph_of terms changed in
      let f = (found terms numbering numbered marked bound).found_at_some in
      let touched = λ (place : ℕ) (t : Term). each_row terms numbering marked bound (λ plan l. (plan.place ≡ place) × IsTouchedBy g ts (row_of terms l) t) (λ plan l q. (q.1.0, q.1.1)) in
      record {
        members = λ e. (
          λ c.
              let k = (f.members e).0 c in
              let r = (touched e.0 (term_at terms e.1)).0 k.1 in
              (r.0, r.1, (r.2.2.0, k.0, (r.2.0, r.2.1, r.2.2.1))),
          λ h.
              let t = h.2.2 in
              (f.members e).1 (h.2.1, (touched e.0 (term_at terms e.1)).1 (h.0, h.1, (t.0, t.1, (h.2.0, t.2)))),
        );
        every = λ plan t c h. f.every plan.place t ((touched plan.place t).1 (plan, c, (h.0, h.1, (refl, h.2))));
        looks = looks_same terms (λ l. (at : RowPlace) × Contains places at × FindsWithAt terms g ts plans at l) (λ l. (plan : ShapePlan) × Contains plans plan × FindsWithSome terms g ts plan.looks l)
            (λ l. each_row terms numbering marked bound (λ plan m. FindsWith g ts (row_of terms m) l) (λ plan m q. (q.0, q.1))) old new f.looks;
      }

-- what the rows of a plan find is what is touched
module _ (terms : List Term) (g s : List Triple) (net : List Change) (plans : List ShapePlan) (changed : List Ids) (are : ArePlans terms s plans) (is : AreChanged terms changed net) where
  touches : (plan : ShapePlan) → Contains plans plan → (f : Term) → IsTouchedBySome terms g (graph_of terms changed) plan.looks f ↔ Touched g s net (term_at terms plan.node) f
  touches plan c f = (
    λ h. let m = h.2.1 in (are.each plan c, (row_of terms h.0, (are.rows plan c (row_of terms h.0)).0 (mapped_to (row_of terms) plan.looks h.0 h.1), (h.2.0, h.2.2, (m.0, m.2, (is m.0).0 m.1)))),
    λ t.
        let i = t.1 in
        let k = mapped_from (row_of terms) plan.looks i.0 ((are.rows plan c i.0).1 i.1) in
        (k.0, k.1, subst (λ (r : LookRow). IsTouchedBy g (graph_of terms changed) r f) (sym k.2) (i.2.0, (i.2.2.0, (is i.2.2.0).1 i.2.2.2, i.2.2.1), i.2.1)),
  )

  finds : (l : Look Term) → ((plan : ShapePlan) × Contains plans plan × FindsWithSome terms g (graph_of terms changed) plan.looks l) ↔ FindingLook g s net l
  finds l = (
    λ h.
        let row = row_of terms h.2.0 in
        let m = h.2.2.1 in
        (term_at terms h.0.node, are.each h.0 h.1, (row, (are.rows h.0 h.1 row).0 (mapped_to (row_of terms) h.0.looks h.2.0 h.2.1), (h.2.2.0, m.0, m.2, (is m.0).0 m.1, h.2.2.2))),
    λ h.
        let p = are.all h.0 h.1 in
        let k = mapped_from (row_of terms) p.0.looks h.2.0 ((are.rows p.0 p.1 h.2.0).1 (subst (λ (n : Term). Looks s n h.2.0) (sym p.2) h.2.1)) in
        let at = h.2.2 in
        (p.0, p.1, (k.0, k.1, subst (λ (r : LookRow). FindsWith g (graph_of terms changed) r l) (sym k.2) (at.0, (at.1, (is at.1).1 at.3, at.2), at.4))),
  )

-- triples in another order, each once or more
module _ (terms : List Term) (changed sorted : List Ids) (same : (i : Ids) → Contains sorted i ↔ Contains changed i) where
  sorted_numbered : AreNumbered terms changed → AreNumbered terms sorted
  sorted_numbered marked = all_from (λ (i : Ids). (i.subject < length terms) × (i.predicate < length terms) × (i.object < length terms)) sorted (λ i c. all_to (λ (i : Ids). (i.subject < length terms) × (i.predicate < length terms) × (i.object < length terms)) changed marked i ((same i).0 c))

  sorted_changed : (net : List Change) → AreChanged terms changed net → AreChanged terms sorted net
  sorted_changed net is t = (
    λ c. let k = mapped_from (triple_at terms) sorted t c in (is t).0 (subst (λ (u : Triple). Contains (graph_of terms changed) u) k.2 (mapped_to (triple_at terms) changed k.0 ((same k.0).0 k.1))),
    λ h. let k = mapped_from (triple_at terms) changed t ((is t).1 h) in subst (λ (u : Triple). Contains (graph_of terms sorted) u) k.2 (mapped_to (triple_at terms) sorted k.0 ((same k.0).1 k.1)),
  )

module _ (ids : List Ids) (plans : List ShapePlan) (changed sorted : List Ids) (same : (i : Ids) → Contains sorted i ↔ Contains changed i) (pairs : List (ℕ × ℕ)) (old new : List (Look ℕ))
    (found : WherePlans ids plans sorted (λ terms. ArePairs terms ids sorted plans pairs old new)) where
  pub touched_pairs : (listed : List (ℕ × ℕ)) → IsListing pair_cmp (Contains pairs) listed → ListsTouched ids plans changed listed
  touched_pairs listed l terms s net numbering numbered marked bound are is =
      let g = graph_of terms ids in
      let f = found terms numbering numbered (sorted_numbered terms changed sorted same marked) bound in
      let on = sorted_changed terms changed sorted same net is in
      record {
        listed = record {
          ascending = l.ascending;
          members = λ e. (
            λ c. let k = (f.members e).0 ((l.members e).0 c) in (k.0, k.1, k.2.0, k.2.1, (touches terms g s net plans sorted are on k.0 k.1 (term_at terms e.1)).0 k.2.2),
            λ h. (l.members e).1 ((f.members e).1 (h.0, h.1, (h.2, h.3, (touches terms g s net plans sorted are on h.0 h.1 (term_at terms e.1)).1 h.4))),
          );
        };
        every = λ shape node t.
            let p = are.all shape t.0 in
            let k = f.every p.0 node p.1 ((touches terms g s net plans sorted are on p.0 p.1 node).1 (subst (λ (n : Term). Touched g s net n node) (sym p.2) t)) in
            (p.0, p.1, p.2, (k.0, (l.members (p.0.place, k.0)).1 k.1, k.2));
      }

  pub touch_looks : AddsTouchLooks ids plans changed old new
  touch_looks terms s net numbering numbered marked bound are is =
      looks_same terms (λ l. (plan : ShapePlan) × Contains plans plan × FindsWithSome terms (graph_of terms ids) (graph_of terms sorted) plan.looks l) (FindingLook (graph_of terms ids) s net)
      (finds terms (graph_of terms ids) s net plans sorted are (sorted_changed terms changed sorted same net is)) old new (found terms numbering numbered (sorted_numbered terms changed sorted same marked) bound).looks

  pub are_placed : (listed : List (ℕ × ℕ)) → IsListing pair_cmp (Contains pairs) listed → ArePlaced ids plans changed listed
  are_placed listed l terms numbering numbered marked bound e c =
      let k = ((found terms numbering numbered (sorted_numbered terms changed sorted same marked) bound).members e).0 ((l.members e).0 c) in (k.0, k.1, k.2.0, k.2.1)
