-- What a check keeps is what the changes touch, by terms.
use Rattle.std.proofs.Common.{◌≡◌, ◌∙◌, ℕ, zero, suc, ◌<◌, List, [], ◌∷◌, length, get_or, map, refl, sym, ap, subst, arith, inl, inr}
use Rattle.std.specs.Prelude.{◌⊎◌, ◌↔◌, Some, None, slice_get}
use Rattle.std.specs.declared.cmp.Ordering.TheVariants.{Equal, Less}
use Rattle.std.proofs.lemmas.Cmp.{tied_itself}
use Rattle.std.proofs.lemmas.List.{length-map}
use Rattle.std.specs.List.{Contains}
use Rattle.std.proofs.lemmas.List.Elements.{Contains-get_or}
use Rattle.collections.specs.Listings.{IsListing}
use Rattle.collections.specs.Ordered.{AllAbove, IsAscending}
use Rattle.collections.proofs.Members.{below}
use Rattle.rdf_model.specs.declared.term.Term.{Term}
use Rattle.rdf_model.specs.declared.triple.Triple.{Triple}
use Rattle.rdf_model.specs.declared.change.Change.{Change}
use Rattle.rdf_model.specs.declared.ids.Ids.{Ids}
use Rattle.rdf_model.specs.declared.look.Look.{Look}
use Rattle.rdf_model.specs.Graphs.{after}
use Rattle.rdf_model.specs.Numbers.{AreNumbered, IsNumbering, graph_of, term_at}
use Rattle.rdf_model.specs.Orders.{term_total}
use Rattle.rdf_model.specs.Terms.{term_cmp, triple_cmp}
use Rattle.shape_model.specs.Limits.{levels_limit}
use Rattle.shape_model.specs.NodeLooks.{IsLook}
use Rattle.shape_model.specs.Readings.{IsAcyclic, IsShallow, reading}
use Rattle.shape_model.specs.Rows.{result_row_cmp}
use Rattle.shape_model.specs.ShapeLooks.{ResultLook, TargetLook}
use Rattle.shape_model.specs.Targets.{Target}
use Rattle.shape_model.specs.Touching.{Touched}
use Rattle.shape_model.proofs.Listings.{listing_same}
use Rattle.path_eval.specs.Naming.{AddsLooks, look_of}
use Rattle.path_eval.proofs.Footprints.{looks_more}
use Rattle.path_eval.proofs.Mirrors.{mapped_from, mapped_to}
use Rattle.shape_ast.specs.declared.shape.Shape.{Shape}
use Rattle.shape_ast.specs.Readings.{ReadShape, named_shapes, read_shape}
use Rattle.shape_ast.specs.Standing.{StandFor, shape_cmp}
use Rattle.shape_eval.specs.Told.{node_at}
use Rattle.shape_eval.proofs.Lookups.{is_at, of_place, only_some, some_same}
use Rattle.focus_affected.specs.declared.plan.ShapePlan.{ShapePlan}
use Rattle.focus_affected.specs.Plans.{AreBoundPlans}
use Rattle.focus_affected.specs.Touched.{AddsTouchLooks, AreChanged, ArePlaced, AreTouchedPairs, ListsTouched}
use Rattle.change_laws.specs.Checks.{AreChecked, CheckedPair, HasPair, SameMembers}
use Rattle.change_laws.specs.Pairs.{CheckingLook, FindingLook, IsCheckFootprint, PairRow}
use Rattle.change_laws.proofs.Checked.{checked_law}
use Rattle.change_laws.proofs.SameGraphs.{finding_same, looks_same as graph_looks_same, members_law, touched_same}
use Rattle.shape_plans.specs.Planned.{ArePlansOf}
use Rattle.parallel_validate.specs.declared.pairs.CheckedRows.{CheckedRows}
use Rattle.parallel_validate.specs.PairResults.{PairLook}
use Rattle.parallel_validate.specs.PairsResults.{AddsLooksOfPairs, ArePlacedPairs, HaveRows, StepsOfPairs, pair_of, shape_at}
use Rattle.parallel_validate.specs.Verdicts.{AreBoundLooks, CountsEvaluated, IsEvaluated, StandsBeside, checked_pair, checked_pairs}
use Rattle.threaded_check.proofs.Counts.{IsAim, apart_pairs, count_same, counted}

none_at : {X : Type 0} → {x : X} → None ≡ Some x → ⊥
none_at e = cc

within_length : {X : Type 0} → (xs : List X) (n : ℕ) (x : X) → slice_get xs n ≡ Some x → n < length xs
within_length [] n x e = absurd (none_at e)
within_length (y ∷ ys) zero x e = omega arith
within_length (y ∷ ys) (suc n) x e = let less = within_length ys n x e in omega (arith, less)

-- a shape below another has another node
apart : (x : ReadShape) (xs : List ReadShape) → AllAbove shape_cmp x xs → (d : ReadShape) → Contains xs d → x.node ≡ d.node → ⊥
apart x xs up d c e =
    let less : term_cmp x.node d.node ≡ Less = below shape_cmp x xs d up c in
    let tied : term_cmp x.node d.node ≡ Equal = subst (λ (n : Term). term_cmp x.node n ≡ Equal) e (tied_itself term_total x.node) in
    cc (less, tied)

-- two places of shapes with one node are one
one_place : (shapes : List ReadShape) → IsAscending shape_cmp shapes → (a b : ℕ) (c d : ReadShape) → slice_get shapes a ≡ Some c → slice_get shapes b ≡ Some d → c.node ≡ d.node → a ≡ b
one_place [] up a b c d at at_d same = absurd (none_at at)
one_place (x ∷ xs) up zero zero c d at at_d same = refl
one_place (x ∷ xs) up zero (suc b) c d at at_d same = absurd (apart x xs up.0 d (of_place xs b d at_d) (ap (λ (r : ReadShape). r.node) (some_same x c at) ∙ same))
one_place (x ∷ xs) up (suc a) zero c d at at_d same = absurd (apart x xs up.0 c (of_place xs a c at) (ap (λ (r : ReadShape). r.node) (some_same x d at_d) ∙ sym same))
one_place (x ∷ xs) up (suc a) (suc b) c d at at_d same = ap suc (one_place xs up.1 a b c d at at_d same)

-- where the shape of a plan stands, and its node
module _ (terms : List Term) (shapes : List (Shape ℕ)) (plans : List ShapePlan) (are : ArePlansOf terms (named_shapes terms shapes) plans) (plan : ShapePlan) (c : Contains plans plan) where
  place_of : plan.place < length shapes
  place_of =
      let k = are.places plan c in
      let many : length (named_shapes terms shapes) ≡ length shapes = length-map shapes (read_shape (term_at terms)) in
      let less = within_length (named_shapes terms shapes) plan.place k.0 k.1 in
      omega (arith, many, less)

  node_of : term_at terms (node_at shapes plan.place) ≡ term_at terms plan.node
  node_of =
      let k = are.places plan c in
      let m = is_at terms shapes plan.place place_of in
      sym m.2 ∙ (ap (λ (r : ReadShape). r.node) (only_some (slice_get (named_shapes terms shapes) plan.place) m.0 k.0 m.1 k.1) ∙ k.2)

-- the touched pairs have places and terms
pub placed : (terms : List Term) (ids changed : List Ids) (shapes : List (Shape ℕ)) (plans : List ShapePlan) (pairs : List (ℕ × ℕ)) → IsNumbering terms → AreNumbered terms ids → AreNumbered terms changed → AreBoundPlans (length terms) plans
    → ArePlansOf terms (named_shapes terms shapes) plans → ArePlaced ids plans changed pairs → ArePlacedPairs terms shapes pairs
placed terms ids changed shapes plans pairs numbering numbered marked bound are at e c =
    let k = at terms numbering numbered marked bound e c in
    (subst (λ (n : ℕ). n < length shapes) k.2 (place_of terms shapes plans are k.0 k.1), k.3)

module _ (terms : List Term) (before later changed : List Ids) (shapes : List (Shape ℕ)) (plans : List ShapePlan) (pairs : List (ℕ × ℕ)) (checked : List CheckedRows) (mid new : List (Look ℕ))
    (numbering : IsNumbering terms) (numbered : AreNumbered terms before) (marked : AreNumbered terms changed) (bound : AreBoundPlans (length terms) plans) (are : ArePlansOf terms (named_shapes terms shapes) plans)
    (touched : ListsTouched before plans changed pairs) (found : AddsTouchLooks before plans changed [] mid) (at : ArePlacedPairs terms shapes pairs)
    (have : HaveRows terms later shapes pairs checked) (looked : AddsLooksOfPairs terms later shapes pairs mid new)
    (g s : List Triple) (net : List Change) (stand : StandFor (named_shapes terms shapes) s) (acyclic : IsAcyclic s) (shallow : IsShallow levels_limit s) (ascending : IsAscending triple_cmp g)
    (same : SameMembers (graph_of terms before) g) (same_later : SameMembers (graph_of terms later) (after g net)) (is : AreChanged terms changed net) where
  list : AreTouchedPairs terms (graph_of terms before) s net plans pairs
  list = touched terms s net numbering numbered marked bound (are.planned s stand acyclic shallow) is

  -- a pair of numbers that is listed, and a pair of terms that is touched
  to_touched : (e : ℕ × ℕ) → Contains pairs e → Touched g s net (shape_at terms shapes e) (term_at terms e.1)
  to_touched e c =
      let k = (list.listed.members e).0 c in
      let node : term_at terms k.0.node ≡ shape_at terms shapes e = sym (node_of terms shapes plans are k.0 k.1) ∙ ap (λ (n : ℕ). term_at terms (node_at shapes n)) k.2 in
      subst (λ (n : Term). Touched g s net n (term_at terms e.1)) node ((touched_same (graph_of terms before) g same s net (term_at terms k.0.node) (term_at terms e.1)).0 k.4)

  from_touched : (shape f : Term) → Touched g s net shape f → (e : ℕ × ℕ) × Contains pairs e × (shape_at terms shapes e ≡ shape) × (term_at terms e.1 ≡ f)
  from_touched shape f t =
      let k = list.every shape f ((touched_same (graph_of terms before) g same s net shape f).1 t) in
      ((k.0.place, k.3.0), k.3.1, node_of terms shapes plans are k.0 k.1 ∙ k.2, k.3.2)

  has_pair : (shape f : Term) → HasPair (checked_pairs terms shapes checked) shape f ↔ Touched g s net shape f
  has_pair shape f = (
    λ h.
        let k = mapped_from (checked_pair terms shapes) checked h.0 h.1 in
        let c : Contains pairs (pair_of k.0) = subst (λ (l : List (ℕ × ℕ)). Contains l (pair_of k.0)) have.same (mapped_to pair_of checked k.0 k.1) in
        let t = to_touched (pair_of k.0) c in
        let shape_is : shape_at terms shapes (pair_of k.0) ≡ shape = ap (λ (x : CheckedPair). x.shape) k.2 ∙ h.2 in
        let focus_is : term_at terms k.0.focus ≡ f = ap (λ (x : CheckedPair). x.focus) k.2 ∙ h.3 in
        subst (λ (x : Term). Touched g s net shape x) focus_is (subst (λ (x : Term). Touched g s net x (term_at terms k.0.focus)) shape_is t),
    λ t.
        let e = from_touched shape f t in
        let k = mapped_from pair_of checked e.0 (subst (λ (l : List (ℕ × ℕ)). Contains l e.0) (sym have.same) e.1) in
        (checked_pair terms shapes k.0, mapped_to (checked_pair terms shapes) checked k.0 k.1, ap (shape_at terms shapes) k.2 ∙ e.2, ap (λ (x : ℕ × ℕ). term_at terms x.1) k.2 ∙ e.3),
  )

  own_rows : (c : CheckedRows) → Contains checked c → IsListing result_row_cmp (PairRow (after g net) s (shape_at terms shapes (pair_of c)) (term_at terms c.focus)) c.rows
  own_rows c i =
      let place = (at (pair_of c) (subst (λ (l : List (ℕ × ℕ)). Contains l (pair_of c)) have.same (mapped_to pair_of checked c i))).0 in
      let m = is_at terms shapes c.shape place in
      let h = graph_of terms later in
      let shape = shape_at terms shapes (pair_of c) in
      let f = term_at terms c.focus in
      let rows : IsListing result_row_cmp (PairRow h s shape f) c.rows = subst (λ (n : Term). IsListing result_row_cmp (PairRow h s n f) c.rows) m.2 (have.rows c i s m.0 stand m.1 acyclic shallow) in
      let law = members_law h (after g net) s same_later shape f in
      listing_same result_row_cmp (PairRow h s shape f) (PairRow (after g net) s shape f) (λ r. (λ p. (law.0.0 p.0, (law.1 r).0 p.1), λ p. (law.0.1 p.0, (law.1 r).1 p.1))) c.rows rows

  pub are_checked : AreChecked g s net (checked_pairs terms shapes checked)
  are_checked = record {
    pairs = has_pair;
    rows = λ c i.
        let k = mapped_from (checked_pair terms shapes) checked c i in
        subst (λ (x : CheckedPair). IsListing result_row_cmp (PairRow (after g net) s x.shape x.focus) x.rows) k.2 (own_rows k.0 k.1);
  }

  -- the look of a pair by its numbers and by its terms
  pair_look : (shape f : Term) (l : Look Term) → PairLook (graph_of terms later) s shape f l ↔ (IsLook (after g net) (TargetLook (reading s shape)) f l ⊎ (Target (after g net) s shape f × IsLook (after g net) (ResultLook s shape) f l))
  pair_look shape f l =
      let h = graph_of terms later in
      let a = graph_looks_same h (after g net) same_later (TargetLook (reading s shape)) f l in
      let b = graph_looks_same h (after g net) same_later (ResultLook s shape) f l in
      let t = (members_law h (after g net) s same_later shape f).0 in
      (elim [ inl i ↦ inl (a.0 i) | inr i ↦ inr (t.0 i.0, b.0 i.1) ], elim [ inl i ↦ inl (a.1 i) | inr i ↦ inr (t.1 i.0, b.1 i.1) ])

  checking : (l : Look Term) → ((e : ℕ × ℕ) × Contains pairs e × PairLook (graph_of terms later) s (shape_at terms shapes e) (term_at terms e.1) l) ↔ CheckingLook g s net l
  checking l = (
    λ i. (shape_at terms shapes i.0, term_at terms i.0.1, to_touched i.0 i.1, (pair_look (shape_at terms shapes i.0) (term_at terms i.0.1) l).0 i.2),
    λ i.
        let e = from_touched i.0 i.1 i.2 in
        let p = (pair_look i.0 i.1 l).1 i.3 in
        (e.0, e.1, subst (λ (x : Term). PairLook (graph_of terms later) s x (term_at terms e.0.1) l) (sym e.2) (subst (λ (x : Term). PairLook (graph_of terms later) s i.0 x l) (sym e.3) p)),
  )

  -- the looks by which the pairs are found, and those of the pairs
  abbrev Finds : Look Term → Type 0
  Finds l = FindingLook (graph_of terms before) s net l

  abbrev Checks : Look Term → Type 0
  Checks l = (e : ℕ × ℕ) × Contains pairs e × PairLook (graph_of terms later) s (shape_at terms shapes e) (term_at terms e.1) l

  all_looks : AddsLooks terms (λ l. Finds l ⊎ Checks l) [] new
  all_looks = looks_more terms Finds Checks [] mid new (found terms s net numbering numbered marked bound (are.planned s stand acyclic shallow) is) (looked s stand acyclic shallow)

  -- each of their numbers has a term
  pub are_bound : AreBoundLooks terms new
  are_bound k d lt = elim ((all_looks.added (get_or new k d)).0 (Contains-get_or new k d lt)) [
    | inl none ↦ absurd (omega (arith, none.1))
    | inr i ↦ i.0
  ]

  pub is_footprint : IsCheckFootprint g s net (map (look_of terms) new)
  is_footprint l =
      let P : Look Term → Type 0 = Finds in
      let Q : Look Term → Type 0 = Checks in
      let all = all_looks in
      let f = finding_same (graph_of terms before) g same s net l in
      let here : (P l ⊎ Q l) ↔ (FindingLook g s net l ⊎ CheckingLook g s net l) = (
        elim [ inl i ↦ inl (f.0 i) | inr i ↦ inr ((checking l).0 i) ],
        elim [ inl i ↦ inl (f.1 i) | inr i ↦ inr ((checking l).1 i) ],
      ) in (
        λ c.
            let k = mapped_from (look_of terms) new l c in
            let e = k.2 in
            elim ((all.added k.0).0 k.1) [
              | inl none ↦ absurd (omega (arith, none.1))
              | inr i ↦ here.0 (subst (λ (x : Look Term). P x ⊎ Q x) e i.1)
            ],
        λ i. all.every l (here.1 i),
      )

  pub beside : StandsBeside terms shapes checked new g s net
  beside k other agree = checked_law g k s net (map (look_of terms) new) (checked_pairs terms shapes checked) ascending other is_footprint are_checked agree

  -- a listed pair, by its terms
  abbrev terms_of : ℕ × ℕ → Term × Term
  terms_of e = (shape_at terms shapes e, term_at terms e.1)

  -- two listed pairs of the same terms are one
  one_pair : (x y : ℕ × ℕ) → Contains pairs x → Contains pairs y → terms_of x ≡ terms_of y → x ≡ y
  one_pair x y c d e =
      let k = (list.listed.members x).0 c in
      let l = (list.listed.members y).0 d in
      let m = is_at terms shapes x.0 (at x c).0 in
      let n = is_at terms shapes y.0 (at y d).0 in
      let place : x.0 ≡ y.0 = one_place (named_shapes terms shapes) stand.ascending x.0 y.0 m.0 n.0 m.1 n.1 (m.2 ∙ (ap (λ (p : Term × Term). p.0) e ∙ sym n.2)) in
      let focus : x.1 ≡ y.1 = numbering x.1 y.1 k.3 l.3 (ap (λ (p : Term × Term). p.1) e) in
      λ i. (place i, focus i)

  pub are_counted : (old next : ℕ) → StepsOfPairs terms later shapes pairs old next → CountsEvaluated old next g s net
  are_counted old next steps =
      let h = graph_of terms later in
      let k = counted h s terms_of pairs old next (apart_pairs pairs list.listed.ascending) one_pair (steps s stand) in (
        k.0,
        count_same (IsAim h s terms_of pairs) (IsEvaluated g s net) k.0 (λ x. (
          λ p. (subst (λ (y : Term × Term). Touched g s net y.0 y.1) p.0.2 (to_touched p.0.0 p.0.1), (members_law h (after g net) s same_later x.0 x.1).0.0 p.1),
          λ q. let e = from_touched x.0 x.1 q.0 in ((e.0, e.1, λ i. (e.2 i, e.3 i)), (members_law h (after g net) s same_later x.0 x.1).0.1 q.1),
        )) k.1,
        k.2,
      )
