-- The results of a compiled shape through chains of fewer references than a number.
use Rattle.std.proofs.Common.{◌≡◌, ℕ, zero, suc, List, [], ◌∷◌, ◌++◌, refl, sym, arith, subst, inl, inr}
use Rattle.std.specs.Prelude.{◌⊎◌, ◌↔◌, Some, IsTrue, slice_get}
use Rattle.std.specs.List.{Contains}
use Rattle.std.proofs.lemmas.List.Elements.{Contains-append_cases, Contains-append_left, Contains-append_right}
use Rattle.collections.specs.Listings.{IsListing}
use Rattle.collections.proofs.Members.{has_equal}
use Rattle.rdf_model.specs.declared.term.Term.{Term}
use Rattle.rdf_model.specs.declared.triple.Triple.{Triple}
use Rattle.rdf_model.specs.declared.ids.Ids.{Ids}
use Rattle.rdf_model.specs.Numbers.{term_at, graph_of}
use Rattle.shape_model.specs.Limits.{levels_limit}
use Rattle.shape_model.specs.declared.result_row.ResultRow.{ResultRow}
use Rattle.shape_model.specs.Readings.{reading}
use Rattle.shape_model.specs.Rows.{result_row_cmp}
use Rattle.shape_model.specs.Validation.{At, AtDepth, surroundings}
use Rattle.shape_model.specs.Vocabulary.{ShDeactivated, true_literal}
use Rattle.shape_model.proofs.Fuel.{depth_law}
use Rattle.shape_model.proofs.Listings.{listing_same}
use Rattle.shape_model.proofs.Surroundings.{at_same}
use Rattle.component_rows.specs.Listed.{Collects}
use Rattle.component_rows.specs.Nodes.{HasNode}
use Rattle.component_rows.proofs.Collecting.{collects_none, collects_same}
use Rattle.shape_ast.specs.declared.shape.Shape.{Shape}
use Rattle.shape_ast.specs.Readings.{ReadShape, named_shapes, read_shape}
use Rattle.shape_ast.proofs.Agreeing.{same_on}
use Rattle.shape_ast.specs.Standing.{StandFor, shape_reading}
use Rattle.shape_eval.specs.Around.{around}
use Rattle.shape_eval.specs.Results.{CollectsAt, ListsResults}
use Rattle.shape_eval.specs.ShapeRows.{FromSome, OwnRow, PropertyAt, ShapeRow}
use Rattle.shape_eval.specs.ValueNodes.{AreValueNodes, IsValueNode}
use Rattle.shape_eval.proofs.Constraints.{opened}
use Rattle.shape_eval.proofs.Lookups.{of_place, read_here}
use Rattle.shape_eval.proofs.Values.{values_same}

pub collects_both : (P Q : ResultRow → Type 0) (rows more : List ResultRow) → Collects P rows → Collects Q more → Collects (λ r. P r ⊎ Q r) (rows ++ more)
collects_both P Q rows more h k r = (
  λ c. elim (Contains-append_cases rows more r c) [ inl d ↦ inl ((h r).0 d) | inr d ↦ inr ((k r).0 d) ],
  λ i. elim i [ inl p ↦ Contains-append_left rows more r ((h r).1 p) | inr q ↦ Contains-append_right rows more r ((k r).1 q) ],
)

-- there is no result where the list is empty
pub none_where : (P : ResultRow → Type 0) (rows : List ResultRow) → Collects P rows → (rows ≡ []) ↔ ((r : ResultRow) → P r → ⊥)
none_where P [] h = (λ e r p. let c = (h r).1 p in absurd (omega arith), λ none. refl)
none_where P (row ∷ rows) h = (λ e. cc, λ none. absurd (none row ((h row).0 (has_equal row rows row refl))))

module _ (terms : List Term) (ids : List Ids) (shapes : List (Shape ℕ)) (s : List Triple) (stand : StandFor (named_shapes terms shapes) s) (c : ReadShape) (i : Contains (named_shapes terms shapes) c) where
  -- nothing without a level, and nothing where the shape is deactivated
  deactivated : (n : ℕ) (f : Term) (r : ResultRow) → IsTrue c.is_deactivated → AtDepth n (graph_of terms ids) (reading s) c.node f r → ⊥
  deactivated zero f r d h = h
  deactivated (suc n) f r d h = h.0 (((stand.each c i).has ShDeactivated true_literal refl).1 (d, refl))

  -- one step
  depth_rows : (IsTrue c.is_deactivated → ⊥) → (n : ℕ) (values : List ℕ) (f : ℕ) → ((v : Term) → HasNode terms values v ↔ IsValueNode (graph_of terms ids) c.path (term_at terms f) v) → (r : ResultRow)
      → AtDepth (suc n) (graph_of terms ids) (reading s) c.node (term_at terms f) r ↔ ShapeRow (around terms ids s n values f) (named_shapes terms shapes) c (term_at terms f) r
  depth_rows active n values f each r =
      let g = graph_of terms ids in
      let e = same_on (named_shapes terms shapes) c (reading s c.node) (stand.each c i) active in
      let same = at_same c.node (term_at terms f) (reading s c.node) (shape_reading (named_shapes terms shapes) c) e
      (surroundings (AtDepth n g (reading s)) g (reading s c.node) (term_at terms f)) (around terms ids s n values f) (record {
        value_node = λ v. (let a = values_same (named_shapes terms shapes) g c (reading s c.node) e (term_at terms f) v in let b = each v in ((λ k. b.1 (a.0 k)), (λ k. a.1 (b.0 k))));
        instance = λ q v k w. (λ j. j, λ j. j);
        focus_value = λ q w k. (λ j. j, λ j. j);
        triple = λ k v p o w. (λ j. j, λ j. j);
        row = λ t v k w r. (λ j. j, λ j. j);
      }) r in
      let steps = opened (named_shapes terms shapes) (around terms ids s n values f) c (term_at terms f) r in
      (λ a. steps.0 (same.0 a), λ b. same.1 (steps.1 b))

  all_rows : (n : ℕ) (values : List ℕ) (f : ℕ) → ((v : Term) → HasNode terms values v ↔ IsValueNode (graph_of terms ids) c.path (term_at terms f) v) → (IsTrue c.is_deactivated → ⊥) → (own more : List ResultRow)
      → Collects (OwnRow (around terms ids s n values f) (named_shapes terms shapes) c (term_at terms f)) own
      → Collects (FromSome c.properties (PropertyAt (around terms ids s n values f) (named_shapes terms shapes))) more
      → Collects (AtDepth (suc n) (graph_of terms ids) (reading s) c.node (term_at terms f)) (own ++ more)
  all_rows n values f each active own more h k =
      let t = around terms ids s n values f in
      let named = named_shapes terms shapes in
      let Own : ResultRow → Type 0 = OwnRow t named c (term_at terms f) in
      let More : ResultRow → Type 0 = FromSome c.properties (PropertyAt t named) in
      collects_same (λ r. Own r ⊎ More r) (AtDepth (suc n) (graph_of terms ids) (reading s) c.node (term_at terms f)) (own ++ more)
      (λ r. let both = depth_rows active n values f each r in ((λ j. both.1 (active, j)), (λ a. (both.0 a).1)))
      (collects_both Own More own more h k)

module _ (terms : List Term) (ids : List Ids) (shapes : List (Shape ℕ)) (place : ℕ) (x : Shape ℕ) (taken : slice_get shapes place ≡ Some x) (f : ℕ) where
  pub nothing_at : (levels : ℕ) → (levels ≡ 0) ⊎ IsTrue x.is_deactivated → CollectsAt terms ids shapes levels place f []
  nothing_at levels why s c stand at = collects_none (AtDepth levels (graph_of terms ids) (reading s) c.node (term_at terms f)) (λ r h. elim why [
    | inl e ↦ subst (λ (n : ℕ). AtDepth n (graph_of terms ids) (reading s) c.node (term_at terms f) r) e h
    | inr d ↦ deactivated terms ids shapes s stand c (of_place (named_shapes terms shapes) place c at) levels (term_at terms f) r (subst (λ (m : ReadShape). IsTrue m.is_deactivated) (read_here terms shapes place x taken c at) d) h
  ])

  pub all_at : (levels n : ℕ) → suc n ≡ levels → (values : List ℕ) → AreValueNodes terms ids x.path f values → (IsTrue x.is_deactivated → ⊥) → (own more all : List ResultRow)
      → ((s : List Triple) → StandFor (named_shapes terms shapes) s → Collects (OwnRow (around terms ids s n values f) (named_shapes terms shapes) (read_shape (term_at terms) x) (term_at terms f)) own)
      → ((s : List Triple) → StandFor (named_shapes terms shapes) s → Collects (FromSome x.properties (PropertyAt (around terms ids s n values f) (named_shapes terms shapes))) more)
      → all ≡ own ++ more → CollectsAt terms ids shapes levels place f all
  all_at levels n e values are active own more all h k is s c stand at =
      subst (λ (m : ℕ). Collects (AtDepth m (graph_of terms ids) (reading s) c.node (term_at terms f)) all) e
      (subst (λ (rows : List ResultRow). Collects (AtDepth (suc n) (graph_of terms ids) (reading s) c.node (term_at terms f)) rows) (sym is)
      (subst (λ (m : ReadShape). Collects (AtDepth (suc n) (graph_of terms ids) (reading s) m.node (term_at terms f)) (own ++ more)) (read_here terms shapes place x taken c at)
      (all_rows terms ids shapes s stand (read_shape (term_at terms) x) (subst (λ (m : ReadShape). Contains (named_shapes terms shapes) m) (sym (read_here terms shapes place x taken c at)) (of_place (named_shapes terms shapes) place c at))
      n values f are.each active own more (h s stand) (k s stand))))

-- a listing of the rows is one of the results
pub lists_results : (terms : List Term) (ids : List Ids) (shapes : List (Shape ℕ)) (place f : ℕ) (rows sorted : List ResultRow) → CollectsAt terms ids shapes levels_limit place f rows
    → IsListing result_row_cmp (Contains rows) sorted → ListsResults terms ids shapes place f sorted
lists_results terms ids shapes place f rows sorted h listing s c stand at acyclic shallow =
    let g = graph_of terms ids in
    listing_same result_row_cmp (Contains rows) (At g s c.node (term_at terms f))
    (λ r. let k = depth_law g s acyclic levels_limit shallow c.node (term_at terms f) r in let j = h s c stand at r in ((λ d. k.1 (j.0 d)), (λ a. j.1 (k.0 a)))) sorted listing
