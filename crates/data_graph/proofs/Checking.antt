-- What a check of changes gives for each graph whose triples by number it was told.
use Rattle.std.proofs.Common.{◌≡◌, ◌∙◌, ◌<◌, ℕ, List, length, map, sym, subst, ap}
use Rattle.std.specs.Prelude.{◌↔◌}
use Rattle.std.specs.List.{Contains}
use Rattle.rdf_model.specs.declared.change.Change.{Change}
use Rattle.rdf_model.specs.declared.ids.Ids.{Ids}
use Rattle.rdf_model.specs.declared.look.Look.{Look}
use Rattle.rdf_model.specs.declared.term.Term.{Term}
use Rattle.rdf_model.specs.declared.triple.Triple.{Triple}
use Rattle.rdf_model.specs.Numbers.{graph_of}
use Rattle.shape_model.specs.Limits.{levels_limit}
use Rattle.shape_model.specs.Readings.{IsAcyclic, IsShallow}
use Rattle.shape_model.specs.Touching.{IsChanged}
use Rattle.store_model.specs.Store.{changed_triple}
use Rattle.shape_ast.specs.declared.shape.Shape.{Shape}
use Rattle.shape_ast.specs.Readings.{AreBound, named_shapes}
use Rattle.shape_ast.specs.Standing.{StandFor}
use Rattle.shape_eval.proofs.Asking.{node_bound}
use Rattle.change_laws.specs.Checks.{AreChecked, CheckedPair}
use Rattle.change_laws.proofs.Checked.{mapped_from, mapped_to}
use Rattle.focus_affected.specs.Touched.{AreChanged}
use Rattle.parallel_validate.specs.Counting.{GrowsByCount}
use Rattle.parallel_validate.specs.declared.pairs.CheckedRows.{CheckedRows}
use Rattle.parallel_validate.specs.PairsResults.{ArePlacedPairs, pair_of}
use Rattle.parallel_validate.specs.Verdicts.{AreBoundLooks, CountsEvaluated, IsEvaluated, KeepsChecked, KeepsLooks, WhereChecked, checked_pair, checked_pairs}
use Rattle.kept_rows.specs.declared.pair_rows.PairRows.{PairRows}
use Rattle.kept_rows.specs.Laws.{ChecksPairs, read_pair, read_pairs}
use Rattle.data_graph.specs.Changes.{IsCheckByNumber, WhereIndexed}
use Rattle.data_graph.specs.Pairs.{numbered}
use Rattle.data_graph.proofs.ChangedTriples.{are_changed}

-- the order of the pairs is no matter
checked_same : (g s : List Triple) (net : List Change) (a b : List CheckedPair) → ((q : CheckedPair) → Contains a q ↔ Contains b q) → AreChecked g s net a → AreChecked g s net b
checked_same g s net a b same are = record {
  pairs = λ shape f. (
    λ h. (are.pairs shape f).0 (h.0, (same h.0).1 h.1, h.2, h.3),
    λ t. let h = (are.pairs shape f).1 t in (h.0, (same h.0).0 h.1, h.2, h.3),
  );
  rows = λ c i. are.rows c ((same c).1 i);
}

module _ (terms : List Term) (shapes : List (Shape ℕ)) (pairs : List CheckedRows) (made : List PairRows) (same : (p : PairRows) → Contains (map (numbered shapes) pairs) p ↔ Contains made p) where
  -- by the numbers of nodes, and by the places of shapes
  read_same : (q : CheckedPair) → Contains (checked_pairs terms shapes pairs) q ↔ Contains (read_pairs terms made) q
  read_same q = (
    λ i.
        let k = mapped_from (checked_pair terms shapes) pairs q i in
        let there = (same (numbered shapes k.0)).0 (mapped_to (numbered shapes) pairs k.0 k.1) in
        subst (λ (w : CheckedPair). Contains (read_pairs terms made) w) k.2 (mapped_to (read_pair terms) made (numbered shapes k.0) there),
    λ i.
        let m = mapped_from (read_pair terms) made q i in
        let k = mapped_from (numbered shapes) pairs m.0 ((same m.0).1 m.1) in
        let own : checked_pair terms shapes k.0 ≡ q = ap (read_pair terms) k.2 ∙ m.2 in
        subst (λ (w : CheckedPair). Contains (checked_pairs terms shapes pairs) w) own (mapped_to (checked_pair terms shapes) pairs k.0 k.1),
  )

  pub checks_pairs : (g s : List Triple) (net : List Change) → AreBound terms shapes → ArePlacedPairs terms shapes (map pair_of pairs) → AreChecked g s net (checked_pairs terms shapes pairs) → ChecksPairs terms g s net made
  checks_pairs g s net bound placed are = record {
    bound = λ p i.
        let k = mapped_from (numbered shapes) pairs p ((same p).1 i) in
        let at = placed (pair_of k.0) (mapped_to pair_of pairs k.0 k.1) in (
          subst (λ (n : ℕ). n < length terms) (ap (λ (w : PairRows). w.shape) k.2) (node_bound terms shapes bound k.0.shape at.0),
          subst (λ (n : ℕ). n < length terms) (ap (λ (w : PairRows). w.focus) k.2) at.1,
        );
    checked = checked_same g s net (checked_pairs terms shapes pairs) (read_pairs terms made) read_same are;
  }

module _ (terms : List Term) (shapes : List (Shape ℕ)) (before later changed : List Ids) (s : List Triple) (net : List Change)
    (stand : StandFor (named_shapes terms shapes) s) (acyclic : IsAcyclic s) (shallow : IsShallow levels_limit s) (numbers : graph_of terms changed ≡ map changed_triple net) where
  changes : AreChanged terms changed net
  changes t = subst (λ (ts : List Triple). Contains ts t ↔ IsChanged net t) (sym numbers) (are_changed net t)

  pub changed_check : (pairs : List CheckedRows) (made : List PairRows) (looked : List (Look ℕ)) → ((p : PairRows) → Contains (map (numbered shapes) pairs) p ↔ Contains made p) → AreBound terms shapes → ArePlacedPairs terms shapes (map pair_of pairs)
      → WhereChecked terms before later shapes changed (KeepsChecked terms shapes pairs) → WhereChecked terms before later shapes changed (KeepsLooks terms looked)
      → WhereChecked terms before later shapes changed (λ g s net. AreBoundLooks terms looked) → WhereIndexed terms before later net (λ g. IsCheckByNumber terms g s net made looked)
  changed_check pairs made looked same bound placed checks looks within = λ g ascending b a. record {
    looks = looks g s net stand acyclic shallow ascending b a changes;
    bound = within g s net stand acyclic shallow ascending b a changes;
    checks = checks_pairs terms shapes pairs made same g s net bound placed (checks g s net stand acyclic shallow ascending b a changes);
  }

  pub changed_count : (old new : ℕ) → WhereChecked terms before later shapes changed (CountsEvaluated old new) → WhereIndexed terms before later net (λ g. GrowsByCount (IsEvaluated g s net) old new)
  changed_count old new counted = λ g ascending b a. counted g s net stand acyclic shallow ascending b a changes
