use Rattle.std.proofs.Common.{◌≡◌, ◌+◌, ◌*◌, ◌<◌, ℕ, List, [], get_or, length, map, take}
use Rattle.std.specs.List.{Contains}
use Rattle.rdf_model.specs.declared.triple.Triple.{Triple}
use Rattle.rdf_model.specs.Numbers.{graph_of, term_at}
use Rattle.shape_model.specs.NodeLooks.{ShapeReads}
use Rattle.shape_model.specs.Readings.{reading}
use Rattle.shape_model.specs.Validation.{AtDepth}
use Rattle.component_rows.specs.Answers.{AreAnswersTo, Tells}
use Rattle.component_rows.specs.Listed.{Collects}
use Rattle.path_eval.specs.Naming.{AddsLooks}
use Rattle.collections.specs.Listings.{Keeps}
use Rattle.shape_ast.specs.Readings.{named_shapes}
use Rattle.shape_ast.specs.Standing.{StandFor}
use Rattle.shape_eval.specs.declared.told.Told.{Told}
use Rattle.shape_eval.specs.Around.{around}
use Rattle.shape_eval.specs.Looks.{AddsAtPlaces, ReadsOfSome}
use Rattle.shape_eval.specs.Results.{AtPlace}
use Rattle.shape_eval.specs.ShapeRows.{FromSome, PropertyAt}
use Rattle.shape_eval.specs.Told.{ConformsAt, node_at}
use Rattle.shape_eval.proofs.evaluation.+evaluation.Given as goal

abbrev pub decreases-rows_at : goal.decreases-rows_at
decreases-rows_at g l = 3 * l.levels

abbrev pub decreases-answers_at : goal.decreases-answers_at
decreases-answers_at g l = 3 * l.levels + 1

abbrev pub decreases-rows_at_each : goal.decreases-rows_at_each
decreases-rows_at_each g l = 3 * l.levels + 1

abbrev pub decreases-told_of_each : goal.decreases-told_of_each
decreases-told_of_each g l = 3 * l.levels + 2

abbrev pub decreases-property_rows : goal.decreases-property_rows
decreases-property_rows g l = 3 * l.levels + 2

-- so far each answer says whether the value node conforms
abbrev pub invariant-answers_at-loop-value : goal.invariant-answers_at-loop-value
invariant-answers_at-loop-value g l =
    let terms = l.evaluation.terms in
    let ids = l.evaluation.ids in
    record {
      many : length l.answers.items ≡ l.value-index;
      told : AtPlace terms l.evaluation.shapes l.place (λ s c. Tells (λ i. ConformsAt (graph_of terms ids) s l.levels c.node (term_at terms (get_or l.values i 0))) l.value-index l.answers.items);
      looks : AtPlace terms l.evaluation.shapes l.place (λ s c. AddsLooks terms (ReadsOfSome (take l.value-index l.values) (λ v. ShapeReads l.levels (graph_of terms ids) (reading s) c.node (term_at terms v))) l.fn.footprint l.footprint);
      kept : Keeps l.fn.footprint l.footprint;
    }

-- the entries so far are for the shapes so far
abbrev pub invariant-told_of_each-loop-place : goal.invariant-told_of_each-loop-place
invariant-told_of_each-loop-place g l =
    let terms = l.evaluation.terms in
    let ids = l.evaluation.ids in
    record {
      entries : ((p : ℕ) → Contains (take l.place-index l.places) p → Contains (map (λ t. t.node) l.told.items) (node_at l.evaluation.shapes p))
          × ((t : Told) → Contains l.told.items t → length t.answers ≡ length l.values)
          × ((s : List Triple) → StandFor (named_shapes terms l.evaluation.shapes) s → (t : Told) → Contains l.told.items t
          → AreAnswersTo (ConformsAt (graph_of terms ids) s l.levels (term_at terms t.node)) terms l.values t.answers);
      looks : AddsAtPlaces terms ids l.evaluation.shapes l.levels (take l.place-index l.places) l.values l.fn.footprint l.footprint;
      kept : Keeps l.fn.footprint l.footprint;
    }

abbrev pub invariant-rows_at_each-loop-value : goal.invariant-rows_at_each-loop-value
invariant-rows_at_each-loop-value g l =
    let terms = l.evaluation.terms in
    let ids = l.evaluation.ids in
    record {
      rows : (length (map (λ list. list.items) l.rows.items) ≡ l.value-index)
          × AtPlace terms l.evaluation.shapes l.place (λ s c. (k : ℕ) → k < l.value-index → Collects (AtDepth l.levels (graph_of terms ids) (reading s) c.node (term_at terms (get_or l.values k 0))) (get_or (map (λ list. list.items) l.rows.items) k []));
      looks : AtPlace terms l.evaluation.shapes l.place (λ s c. AddsLooks terms (ReadsOfSome (take l.value-index l.values) (λ v. ShapeReads l.levels (graph_of terms ids) (reading s) c.node (term_at terms v))) l.fn.footprint l.footprint);
      kept : Keeps l.fn.footprint l.footprint;
    }

abbrev pub invariant-property_rows-loop-place : goal.invariant-property_rows-loop-place
invariant-property_rows-loop-place g l =
    let terms = l.evaluation.terms in
    let ids = l.evaluation.ids in
    record {
      rows : (s : List Triple) (f : ℕ) → StandFor (named_shapes terms l.evaluation.shapes) s
          → Collects (FromSome (take l.place-index l.places) (PropertyAt (around terms ids s l.levels l.values f) (named_shapes terms l.evaluation.shapes))) l.rows.items;
      looks : AddsAtPlaces terms ids l.evaluation.shapes l.levels (take l.place-index l.places) l.values l.fn.footprint l.footprint;
      kept : Keeps l.fn.footprint l.footprint;
    }
