-- Which node comes first, and which shape.
use Rattle.std.proofs.Common.{◌≡◌, ◌∙◌, ◌+◌, ◌<◌, ◌≤◌, ℕ, zero, suc, Bool, true, false, List, [], ◌∷◌, length, take, get_or, refl, sym, ap, subst, arith, inl, inr}
use Rattle.std.specs.Prelude.{◌⊎◌, ◌↔◌, ◌≢◌, IsTrue, MatchOption, Option, Some, None, slice_get}
use Rattle.std.specs.List.{Contains, list_any}
use Rattle.std.proofs.lemmas.List.{length-map, take_all, take_more}
use Rattle.std.proofs.lemmas.List.Elements.{Contains-append_left, Contains-push, Contains-push_cases}
use Rattle.std.specs.declared.cmp.Ordering.{Ordering}
use Rattle.std.specs.declared.cmp.Ordering.TheVariants.{Less, Equal, Greater}
use Rattle.std.specs.Ordering.{eq_by_cmp, is_eq, ordering_reverse, ordering_then}
use Rattle.std.specs.Cmp.{eq_by_cmp_equiv, tied_itself}
use Rattle.std.proofs.lemmas.Map.Views.{Contains-from_any, list_any-from_Contains}
use Rattle.collections.specs.Listings.{IsListing}
use Rattle.shape_model.specs.Orders.{result_row_exact, result_row_total}
use Rattle.shape_model.specs.Rows.{result_row_cmp}
use Rattle.collections.specs.Ordered.{IsAscending}
use Rattle.collections.proofs.Members.{below}
use Rattle.rdf_model.specs.declared.term.Term.{Term}
use Rattle.rdf_model.specs.declared.triple.Triple.{Triple}
use Rattle.rdf_model.specs.declared.ids.Ids.{Ids}
use Rattle.rdf_model.specs.Numbers.{graph_of, term_at}
use Rattle.rdf_model.specs.Orders.{term_total}
use Rattle.rdf_model.specs.Terms.{term_cmp}
use Rattle.shape_model.specs.declared.result_row.ResultRow.{ResultRow}
use Rattle.shape_model.specs.Validation.{At}
use Rattle.shape_model.proofs.Bridges.{makes_shape}
use Rattle.shape_model.proofs.Covers.{has_target}
use Rattle.shape_ast.specs.declared.shape.Shape.{Shape}
use Rattle.shape_ast.specs.Readings.{ReadShape, named_shapes, read_shape}
use Rattle.shape_ast.specs.Standing.{shape_cmp}
use Rattle.path_eval.proofs.Mirrors.{mapped_from}
use Rattle.shape_eval.proofs.Lookups.{at_place, got_at, named_place, of_place, only_some}
use Rattle.target_nodes.specs.ShapeTargets.{AreTargets}
use Rattle.result_evidence.specs.declared.aims.Aim.{Aim}
use Rattle.result_evidence.specs.Aims.{GivesNoneBelow, IsFirstAim, IsLeastTarget}
use Rattle.evidence_blocks.specs.Blocks.{Gives, IsLeastAim, aim_cmp}
use Rattle.result_evidence.specs.Standing.{AreOf, ForEach, ForShape, IsLeastIn, IsLeastWith, IsSomeResult}

-- the first isn't above what isn't below it, nor above its equal, nor above what one is that is above it
not_above : (x y : Term) → (term_cmp y x ≡ Less → ⊥) → term_cmp x y ≢ Greater
not_above x y never gt = never (term_total.antisymm y x ∙ ap ordering_reverse gt)

pub equal_terms : (x y : Term) → x ≡ y → term_cmp x y ≡ Equal
equal_terms x y e = subst (λ (z : Term). term_cmp x z ≡ Equal) e (tied_itself term_total x)

not_above_itself : (x y : Term) → x ≡ y → term_cmp x y ≢ Greater
not_above_itself x y e gt = let k = equal_terms x y e in cc (k, gt)

not_above_more : (x m n : Term) → term_cmp x m ≡ Less → term_cmp m n ≢ Greater → term_cmp x n ≢ Greater
not_above_more x m n lt never gt =
    let a : term_cmp n x ≡ Less = term_total.antisymm n x ∙ ap ordering_reverse gt in
    never (term_total.antisymm m n ∙ ap ordering_reverse (term_total.trans n x m a lt))

module _ (terms : List Term) (P : Term → Type 0) (node : ℕ) where
  -- the node doesn't come before the least one
  pub passed_over : (least : Option ℕ) (first : Bool) → first ≡ false → MatchOption least (IsTrue first) (λ m. IsTrue first ↔ (term_cmp (term_at terms node) (term_at terms m) ≡ Less)) → IsLeastWith terms P node least least
  passed_over None first e is nodes h = absurd (cc (e, is))
  passed_over (Some m) first e is nodes h = (
    h.0,
    Contains-append_left nodes (node ∷ []) m h.1,
    h.2,
    λ n c p. elim (Contains-push_cases nodes node n c) [
      | inl d ↦ h.3 n d p
      | inr q ↦ not_above (term_at terms m) (term_at terms n) (λ lt. let k = is.1 (subst (λ (j : ℕ). term_cmp (term_at terms j) (term_at terms m) ≡ Less) (sym q) lt) in cc (e, k))
    ],
  )

  -- P doesn't hold of it
  pub failed : (least : Option ℕ) → (P (term_at terms node) → ⊥) → IsLeastWith terms P node least least
  failed None never nodes h = λ n c p. elim (Contains-push_cases nodes node n c) [ inl d ↦ h n d p | inr q ↦ never (subst (λ (j : ℕ). P (term_at terms j)) (sym q) p) ]
  failed (Some m) never nodes h = (
    h.0,
    Contains-append_left nodes (node ∷ []) m h.1,
    h.2,
    λ n c p. elim (Contains-push_cases nodes node n c) [
      | inl d ↦ h.3 n d p
      | inr q ↦ absurd (never (subst (λ (j : ℕ). P (term_at terms j)) (sym q) p))
    ],
  )

  -- it comes first, and P holds of it
  pub taken : (least : Option ℕ) (first : Bool) → first ≡ true → node < length terms → P (term_at terms node) → MatchOption least (IsTrue first) (λ m. IsTrue first ↔ (term_cmp (term_at terms node) (term_at terms m) ≡ Less))
      → IsLeastWith terms P node least (Some node)
  taken None first e lt p is nodes h = (
    lt,
    Contains-push nodes node,
    p,
    λ n c q. elim (Contains-push_cases nodes node n c) [
      | inl d ↦ absurd (h n d q)
      | inr k ↦ not_above_itself (term_at terms node) (term_at terms n) (ap (term_at terms) k)
    ],
  )
  taken (Some m) first e lt p is nodes h = (
    lt,
    Contains-push nodes node,
    p,
    λ n c q. elim (Contains-push_cases nodes node n c) [
      | inl d ↦ not_above_more (term_at terms node) (term_at terms m) (term_at terms n) (is.0 e) (h.3 n d q)
      | inr k ↦ not_above_itself (term_at terms node) (term_at terms n) (ap (term_at terms) k)
    ],
  )

-- a row among rows
is_equal : (o : Ordering) → is_eq o ≡ true → o ≡ Equal
is_equal Less h = cc
is_equal Equal h = refl
is_equal Greater h = cc

has_row : (row : ResultRow) (rows : List ResultRow) → IsTrue (list_any (eq_by_cmp result_row_cmp row) rows) ↔ Contains rows row
has_row row rows = (
  λ h. Contains-from_any {eq = eq_by_cmp result_row_cmp} (λ x y e. result_row_exact x y (is_equal (result_row_cmp x y) e)) row rows h,
  λ c. list_any-from_Contains (eq_by_cmp_equiv result_row_total) row rows c,
)

pub among_results : (P : ResultRow → Type 0) (rows slice : List ResultRow) (row : ResultRow) (answer : Bool) → answer ≡ list_any (eq_by_cmp result_row_cmp row) slice → slice ≡ rows → IsListing result_row_cmp P rows → IsTrue answer ↔ P row
among_results P rows slice row answer is same l =
    let e : answer ≡ list_any (eq_by_cmp result_row_cmp row) rows = is ∙ ap (list_any (eq_by_cmp result_row_cmp row)) same in (
      λ h. (l.members row).0 ((has_row row rows).0 (subst IsTrue e h)),
      λ p. subst IsTrue (sym e) ((has_row row rows).1 ((l.members row).1 p)),
    )

-- one node after another
module _ (terms : List Term) (P : Term → Type 0) (nodes : List ℕ) where
  pub none_yet : IsLeastIn terms P [] None
  none_yet n c p = absurd (omega (arith, c.1))

  pub next_least : (i : ℕ) (old new : Option ℕ) → i < length nodes → IsLeastIn terms P (take i nodes) old → IsLeastWith terms P (get_or nodes i 0) old new → IsLeastIn terms P (take (i + 1) nodes) new
  next_least i old new lt before h = subst (λ (ns : List ℕ). IsLeastIn terms P ns new) (sym (take_more nodes i 0 lt)) (h (take i nodes) before)

  pub all_nodes : (i : ℕ) (least : Option ℕ) → length nodes ≤ i → IsLeastIn terms P (take i nodes) least → IsLeastIn terms P nodes least
  all_nodes i least le h = subst (λ (ns : List ℕ). IsLeastIn terms P ns least) (take_all i nodes le) h

module _ (terms : List Term) (ids : List Ids) (s : List Triple) (r : ResultRow) (shape : Term) where
  -- the nodes are the targets of the shape
  pub of_targets : (nodes : List ℕ) → AreTargets terms ids s shape nodes → (least : Option ℕ) → IsLeastIn terms (λ f. At (graph_of terms ids) s shape f r) nodes least → IsLeastTarget terms ids s r shape least
  of_targets nodes t None h = λ f gives.
      let k = mapped_from (term_at terms) nodes f (t.every f gives.0) in
      h k.0 k.1 (subst (λ (v : Term). At (graph_of terms ids) s shape v r) (sym k.2) gives.1)
  of_targets nodes t (Some m) h = record {
    bound = h.0;
    gives = (((t.listed.members m).0 h.1).1, h.2);
    least = λ f gives. let k = mapped_from (term_at terms) nodes f (t.every f gives.0) in
        subst (λ (v : Term). term_cmp (term_at terms m) v ≢ Greater) k.2 (h.3 k.0 k.1 (subst (λ (v : Term). At (graph_of terms ids) s shape v r) (sym k.2) gives.1));
  }

-- how two numbers stand
pub two_ways : (j k : ℕ) → j < k + 1 → (j < k) ⊎ (j ≡ k)
two_ways zero zero lt = inr refl
two_ways zero (suc k) lt = inl (omega arith)
two_ways (suc j) zero lt = absurd (omega (arith, lt))
two_ways (suc j) (suc k) lt = elim (two_ways j k (omega (arith, lt))) [ inl a ↦ inl (omega (arith, a)) | inr e ↦ inr (ap suc e) ]

pub three_ways : (j k : ℕ) → (j < k) ⊎ (j ≡ k) ⊎ (k < j)
three_ways zero zero = inr (inl refl)
three_ways zero (suc k) = inl (omega arith)
three_ways (suc j) zero = inr (inr (omega arith))
three_ways (suc j) (suc k) = elim (three_ways j k) [ inl a ↦ inl (omega (arith, a)) | inr (inl e) ↦ inr (inl (ap suc e)) | inr (inr b) ↦ inr (inr (omega (arith, b))) ]

-- an item that stands before another is below it
pub above_at : {X : Type 0} → (R : X → X → Ordering) (xs : List X) (i j : ℕ) (x y : X) → IsAscending R xs → i < j → slice_get xs i ≡ Some x → slice_get xs j ≡ Some y → R x y ≡ Less
above_at R [] i j x y asc lt e f = cc
above_at R (z ∷ zs) i zero x y asc lt e f = absurd (omega (arith, lt))
above_at R (z ∷ zs) zero (suc j) x y asc lt e f = let is : z ≡ x = only_some (Some z) z x refl e in subst (λ w. R w y ≡ Less) is (below R z zs y asc.0 (of_place zs j y f))
above_at R (z ∷ zs) (suc i) (suc j) x y asc lt e f = above_at R zs i j x y asc.1 (omega (arith, lt)) e f

-- the place of an item
placed : {X : Type 0} → (xs : List X) (x : X) → Contains xs x → (j : ℕ) × (j < length xs) × (slice_get xs j ≡ Some x)
placed xs x c = (c.0, c.1, got_at xs c.0 x c.1 ∙ ap Some c.2)

module _ (terms : List Term) (ids : List Ids) (shapes : List (Shape ℕ)) (r : ResultRow) where
  as_many : length (named_shapes terms shapes) ≡ length shapes
  as_many = length-map shapes (read_shape (term_at terms))

  pub none_below : ForEach terms shapes (λ s. GivesNoneBelow terms ids shapes s r 0)
  none_below s of j c h lt at gives = absurd (omega (arith, lt))

  -- the next shape gives none
  pub none_more : (k : ℕ) → ForEach terms shapes (λ s. GivesNoneBelow terms ids shapes s r k) → (least : Option ℕ) → least ≡ None → ForShape terms shapes k (λ s shape. IsLeastTarget terms ids s r shape least)
      → ForEach terms shapes (λ s. GivesNoneBelow terms ids shapes s r (k + 1))
  none_more k before least e own s of j c h lt at gives =
      let none = subst (λ (o : Option ℕ). ForShape terms shapes k (λ s shape. IsLeastTarget terms ids s r shape o)) e own in
      elim (two_ways j k lt) [
        | inl under ↦ before s of j c h under at gives
        | inr is ↦ none s c of (subst (λ (n : ℕ). slice_get (named_shapes terms shapes) n ≡ Some c) is at) h gives
      ]

  -- the next shape gives it
  pub first_aim : (aim : Aim) → aim.place < length shapes → ForEach terms shapes (λ s. GivesNoneBelow terms ids shapes s r aim.place) → (least : Option ℕ) → least ≡ Some aim.focus
      → ForShape terms shapes aim.place (λ s shape. IsLeastTarget terms ids s r shape least) → ForEach terms shapes (λ s. IsFirstAim terms ids shapes s r aim)
  first_aim aim lt before least e own s of =
      let some = subst (λ (o : Option ℕ). ForShape terms shapes aim.place (λ s shape. IsLeastTarget terms ids s r shape o)) e own in
      record { place = lt; below = before s of; target = λ c at. some s c of at }

  -- the shape of a result has a place
  pub shape_place : (s : List Triple) → AreOf terms shapes s → (shape f : Term) → Gives (graph_of terms ids) s r shape f → (j : ℕ) × (c : ReadShape) × (j < length shapes) × (slice_get (named_shapes terms shapes) j ≡ Some c) × (c.node ≡ shape)
  shape_place s of shape f gives =
      let k = of.stand.all shape (makes_shape s shape (has_target (graph_of terms ids) s shape f gives.0)) in
      let p = placed (named_shapes terms shapes) k.0 k.1 in
      (p.0, k.0, omega (arith, p.1, as_many), p.2, k.2)

  pub some_gives : IsSomeResult terms ids shapes r → ForEach terms shapes (λ s. GivesNoneBelow terms ids shapes s r (length shapes)) → ⊥
  some_gives some none =
      let s = some.0 in
      let of = some.1 in
      let i = some.2 in
      let p = shape_place s of i.0 i.1 (i.2, i.3) in
      none s of p.0 p.1 i.1 p.2 p.3 (subst (λ (t : Term). Gives (graph_of terms ids) s r t i.1) (sym p.4) (i.2, i.3))

  module _ (aim : Aim) (first : ForEach terms shapes (λ s. IsFirstAim terms ids shapes s r aim)) where
    pub aim_bound : IsSomeResult terms ids shapes r → (aim.place < length shapes) × (aim.focus < length terms)
    aim_bound some =
        let f = first some.0 some.1 in
        let h = at_place shapes aim.place f.place in
        (f.place, (f.target (read_shape (term_at terms) h.0) (named_place terms shapes aim.place h.0 h.1)).bound)

    least_by : (s : List Triple) (c : ReadShape) → AreOf terms shapes s → slice_get (named_shapes terms shapes) aim.place ≡ Some c → (other h : Term) → Gives (graph_of terms ids) s r other h → aim_cmp c.node (term_at terms aim.focus) other h ≢ Greater
    least_by s c of at other h gives gt =
        let named = named_shapes terms shapes in
        let v = term_at terms aim.focus in
        let f = first s of in
        let p = shape_place s of other h gives in
        let own = subst (λ (t : Term). Gives (graph_of terms ids) s r t h) (sym p.4) gives in
        elim (three_ways p.0 aim.place) [
          | inl under ↦ f.below p.0 p.1 h under p.3 own
          | inr (inl is) ↦ (let same : c ≡ p.1 = only_some (slice_get named aim.place) c p.1 at (subst (λ (n : ℕ). slice_get named n ≡ Some p.1) is p.3) in
              let e = equal_terms c.node other (ap (λ (d : ReadShape). d.node) same ∙ p.4) in
              (f.target p.1 (subst (λ (n : ℕ). slice_get named n ≡ Some p.1) is p.3)).least h own (sym (ap (λ (o : Ordering). ordering_then o (term_cmp v h)) e) ∙ gt))
          | inr (inr over) ↦ (let lt : term_cmp c.node p.1.node ≡ Less = above_at shape_cmp named aim.place p.0 c p.1 of.stand.ascending over at p.3 in
              let e = subst (λ (t : Term). term_cmp c.node t ≡ Less) p.4 lt in
              let k : Less ≡ Greater = sym (ap (λ (o : Ordering). ordering_then o (term_cmp v h)) e) ∙ gt in cc)
        ]

    pub aim_least : ForShape terms shapes aim.place (λ s shape. IsLeastAim (graph_of terms ids) s r shape (term_at terms aim.focus))
    aim_least s c of at = record { gives = ((first s of).target c at).gives; least = least_by s c of at }
