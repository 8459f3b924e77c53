-- The results of a graph, shape by shape and target by target.
use Rattle.std.proofs.Common.{◌≡◌, ℕ, ◌+◌, ◌<◌, ◌≤◌, List, [], ◌++◌, length, take, get_or, sym, arith, subst}
use Rattle.std.specs.Prelude.{Some, slice_get}
use Rattle.std.specs.List.{Contains}
use Rattle.std.proofs.lemmas.List.{length-map}
use Rattle.collections.specs.Listings.{IsListing}
use Rattle.rdf_model.specs.declared.term.Term.{Term}
use Rattle.rdf_model.specs.declared.ids.Ids.{Ids}
use Rattle.rdf_model.specs.Numbers.{graph_of, term_at}
use Rattle.shape_model.specs.declared.result_row.ResultRow.{ResultRow}
use Rattle.shape_model.specs.Rows.{result_row_cmp}
use Rattle.shape_model.specs.Validation.{At, IsResult}
use Rattle.shape_model.proofs.Bridges.{makes_shape}
use Rattle.shape_model.proofs.Covers.{has_target}
use Rattle.shape_model.proofs.Listings.{listing_same}
use Rattle.component_rows.specs.Listed.{Collects}
use Rattle.component_rows.proofs.Collecting.{collects_same, from_none, loop_all, loop_more, mapped_from}
use Rattle.shape_ast.specs.declared.shape.Shape.{Shape}
use Rattle.shape_ast.specs.Readings.{ReadShape, named_shapes, read_shape}
use Rattle.target_nodes.specs.ShapeTargets.{AreTargets, AtShape}
use Rattle.shape_eval.specs.Results.{ListsResults}
use Rattle.shape_eval.specs.ShapeRows.{FromSome}
use Rattle.shape_eval.proofs.Lookups.{at_place, got_at}
use Rattle.parallel_validate.specs.Whole.{CollectsAtNodes, CollectsOfShape, CollectsResults, IsResultOf, ListsGraph}

module _ (terms : List Term) (ids : List Ids) (shapes : List (Shape ℕ)) where
  pub no_node : (k : ℕ) → CollectsAtNodes terms ids shapes k [] []
  no_node k s c stand at acyclic shallow = from_none (λ n. At (graph_of terms ids) s c.node (term_at terms n))

  -- one node more
  pub more_node : (k : ℕ) (nodes : List ℕ) (i : ℕ) (rows more new : List ResultRow) → i < length nodes → new ≡ rows ++ more
      → CollectsAtNodes terms ids shapes k (take i nodes) rows → ListsResults terms ids shapes k (get_or nodes i 0) more → CollectsAtNodes terms ids shapes k (take (i + 1) nodes) new
  more_node k nodes i rows more new lt joined before lists s c stand at acyclic shallow =
      loop_more (λ m. At (graph_of terms ids) s c.node (term_at terms m)) nodes i 0 rows new lt (before s c stand at acyclic shallow) (more, joined, λ r. (lists s c stand at acyclic shallow).members r)

  pub all_nodes : (k : ℕ) (nodes : List ℕ) (i : ℕ) (rows : List ResultRow) → length nodes ≤ i → CollectsAtNodes terms ids shapes k (take i nodes) rows → CollectsAtNodes terms ids shapes k nodes rows
  all_nodes k nodes i rows le before s c stand at acyclic shallow = loop_all (λ m. At (graph_of terms ids) s c.node (term_at terms m)) nodes i rows le (before s c stand at acyclic shallow)

  -- the nodes are the targets of the shape
  pub at_targets : (k : ℕ) (nodes : List ℕ) (rows : List ResultRow) → AtShape terms shapes k (λ s own. AreTargets terms ids s own nodes) → CollectsAtNodes terms ids shapes k nodes rows → CollectsOfShape terms ids shapes k rows
  at_targets k nodes rows targets gathered s c stand at acyclic shallow =
      let g = graph_of terms ids in
      let t = targets s c stand at in
      collects_same (FromSome nodes (λ n. At g s c.node (term_at terms n))) (IsResultOf g s c.node) rows (λ r. (
        λ i. (term_at terms i.0, ((t.listed.members i.0).0 i.1).1, i.2),
        λ i. let m = mapped_from (term_at terms) nodes i.0 (t.every i.0 i.1) in (m.0, m.1, subst (λ (f : Term). At g s c.node f r) (sym m.2) i.2),
      )) (gathered s c stand at acyclic shallow)

  pub no_shape : CollectsResults terms ids shapes 0 []
  no_shape s stand acyclic shallow = from_none (λ (c : ReadShape). IsResultOf (graph_of terms ids) s c.node)

  -- one shape more
  pub more_shape : (k : ℕ) (rows more new : List ResultRow) → k < length shapes → new ≡ rows ++ more → CollectsResults terms ids shapes k rows → CollectsOfShape terms ids shapes k more → CollectsResults terms ids shapes (k + 1) new
  more_shape k rows more new lt joined before own s stand acyclic shallow =
      let named = named_shapes terms shapes in
      let inside : k < length named = omega (arith, lt, length-map shapes (read_shape (term_at terms))) in
      let h = at_place named k inside in
      loop_more (λ (c : ReadShape). IsResultOf (graph_of terms ids) s c.node) named k h.0 rows new inside (before s stand acyclic shallow) (more, joined, own s (get_or named k h.0) stand (got_at named k h.0 inside) acyclic shallow)

  -- all shapes
  pub all_shapes : (k : ℕ) (rows sorted : List ResultRow) → length shapes ≤ k → CollectsResults terms ids shapes k rows → IsListing result_row_cmp (Contains rows) sorted → ListsGraph terms ids shapes sorted
  all_shapes k rows sorted le before listing s stand acyclic shallow =
      let g = graph_of terms ids in
      let named = named_shapes terms shapes in
      let inside : length named ≤ k = omega (arith, le, length-map shapes (read_shape (term_at terms))) in
      let all : Collects (FromSome named (λ (c : ReadShape). IsResultOf g s c.node)) rows = loop_all (λ (c : ReadShape). IsResultOf g s c.node) named k rows inside (before s stand acyclic shallow) in
      listing_same result_row_cmp (Contains rows) (IsResult g s) (λ r. (
        λ i. let d = (all r).0 i in (d.0.node, d.2.0, d.2.1, d.2.2),
        λ i. let c = stand.all i.0 (makes_shape s i.0 (has_target g s i.0 i.1 i.2)) in
            (all r).1 (c.0, c.1, subst (λ (n : Term). IsResultOf g s n r) (sym c.2) (i.1, i.2, i.3)),
      )) sorted listing
