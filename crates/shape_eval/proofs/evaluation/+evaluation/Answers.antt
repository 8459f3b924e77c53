use Rattle.std.proofs.Common.{◌≡◌, ◌∙◌, ◌+◌, ◌-◌, ◌*◌, ◌<◌, ℕ, Bool, List, [], ◌∷◌, get_or, length, map, vec_len, ap, arith, rules, sym, subst, inl, inr}
use Rattle.std.specs.Prelude.{◌⊎◌, ◌↔◌, IsTrue}
use Rattle.std.specs.List.{All, Contains}
use Rattle.std.proofs.lemmas.List.{length-map, length_push, map-append}
use Rattle.std.proofs.lemmas.List.Elements.{Contains-get_or}
use Rattle.std.proofs.lemmas.Result.{IfOk-weaker}
use Rattle.rdf_model.specs.declared.term.Term.{Term}
use Rattle.rdf_model.specs.declared.triple.Triple.{Triple}
use Rattle.rdf_model.specs.declared.ids.Ids.{Ids}
use Rattle.rdf_model.specs.Numbers.{graph_of, term_at}
use Rattle.shape_model.specs.declared.result_row.ResultRow.{ResultRow}
use Rattle.shape_model.specs.Components.{PropertyRow}
use Rattle.component_rows.specs.Answers.{AreAnswersTo}
use Rattle.component_rows.specs.Listed.{Collects, Lists}
use Rattle.component_rows.specs.Nodes.{AreNodes, HasNode}
use Rattle.component_rows.proofs.Collecting.{loop_all, loop_more}
use Rattle.logic_constraints.specs.Properties.{told_rows, with_property}
use Rattle.path_eval.specs.Naming.{AddsLooks}
use Rattle.shape_ast.specs.declared.constraint.Constraint.{Constraint}
use Rattle.shape_ast.specs.Readings.{named_shapes, read_constraint, read_optional_path, read_shape}
use Rattle.shape_ast.specs.Standing.{IsLinked, StandFor}
use Rattle.shape_eval.specs.declared.told.Told.{Told}
use Rattle.shape_eval.specs.Around.{around}
use Rattle.shape_eval.specs.Looks.{AddsAtEach, AddsAtPlaces, ConstraintReads, OptionalReads, ReadsOfSome}
use Rattle.shape_eval.specs.Results.{AtPlace, CollectsAt, CollectsAtEach}
use Rattle.shape_eval.specs.ShapeRows.{FromSome, OwnRow, PropertyAt}
use Rattle.shape_eval.specs.Told.{AreRight, AsksSome, ConformsAt, WhereRight, answers_of, node_at, node_number}
use Rattle.shape_eval.specs.ValueNodes.{AtNumbers}
use Rattle.shape_eval.proofs.Depths.{all_at, nothing_at}
use Rattle.shape_eval.proofs.Evaluations.{answered_all, answered_more, empty_when, entries_have, entries_more, entries_right, entry_right, listed_all, listed_more, places_at, property_at, values_at, bound_at}
use Rattle.shape_eval.proofs.Looking.{looked_all, looked_more, looked_none, places_all, places_more, places_none}
use Rattle.shape_eval.proofs.Reading.{all_looks_at, no_looks_at}
use Rattle.shape_eval.proofs.Lookups.{named_place, of_place}
use Rattle.shape_eval.proofs.evaluation.+evaluation.Goals.{rows_at-then-levels-eq0-via-then-levels-eq0, rows_at-then-levels-eq0-via-else-levels-eq0+then-shape}
use Rattle.shape_eval.proofs.evaluation.+evaluation.Goals as goal

pub answers_at-rows_at-requires : goal.answers_at-rows_at-requires
answers_at-rows_at-requires g t c κs within =
    let less : 3 * c.args.levels < 3 * c.args.levels + 1 = omega arith in
    let values = c.args.values.now in
    let i = c.loop-value.value-index in
    let focus = c.requires.nodes.named (get_or values i 0) (Contains-get_or values i 0 c.loop-value-test.true) in
    (subst (λ (n : ℕ). 3 * c.args.levels < n) c.decreases less, (within.0, (within.1, (c.requires.place, focus))))

pub answers_at-loop-value-init : goal.answers_at-loop-value-init
answers_at-loop-value-init g t c = record {
  many = search rules;
  told = search rules;
  looks = looked_none c.args.evaluation.now.terms c.args.evaluation.now.ids c.args.evaluation.now.shapes c.args.levels c.args.place c.args.values.now c.args.footprint.now;
  kept = λ look h. h;
}

pub answers_at-loop-value-preserved : goal.answers_at-loop-value-preserved
answers_at-loop-value-preserved g t c =
    let terms = c.args.evaluation.now.terms in
    let ids = c.args.evaluation.now.ids in
    let before = c.loop-value.invariant in
    let rows = c.in_ok-rows.rows in
    let many : vec_len rows ≡ length rows.items = search rules in
    record {
      many = ap (λ (answers : List Bool). length answers) c.in_ok-push.ensures.items ∙ length_push c.loop-value.answers.items c.is_empty.result ∙ ap (λ (n : ℕ). n + 1) before.many;
      told = answered_more terms ids c.args.evaluation.now.shapes c.args.levels c.args.place c.args.values.now c.loop-value.value-index c.loop-value.answers.items c.push.new.self.items c.is_empty.result rows.items c.in_ok-push.ensures.items before.told c.in_ok-rows.ensures.rows
          (empty_when c.is_empty.result (vec_len rows) rows.items c.is_empty.ensures many);
      looks = looked_more terms ids c.args.evaluation.now.shapes c.args.levels c.args.place c.args.values.now c.loop-value.value-index c.loop-value-test.true c.args.footprint.now c.loop-value.footprint c.rows_at.new.footprint before.looks c.in_ok-rows.ensures.looks;
      kept = λ look h. c.rows_at.ensures.kept look (c.loop-value.invariant.kept look h);
    }

pub answers_at-returns-clause-as_many : goal.answers_at-returns-clause-as_many
answers_at-returns-clause-as_many g t c = let count = c.loop-value.invariant.many in omega (arith, count, c.loop-value-test.false, c.loop-value.auto.value-index-end)

pub answers_at-returns-clause-told : goal.answers_at-returns-clause-told
answers_at-returns-clause-told g t c =
    answered_all c.args.evaluation.now.terms c.args.evaluation.now.ids c.args.evaluation.now.shapes c.args.levels c.args.place c.args.values.now c.loop-value.value-index c.loop-value.answers.items
    c.loop-value-test.false c.loop-value.auto.value-index-end c.loop-value.invariant.told

pub answers_at-returns-clause-looks : goal.answers_at-returns-clause-looks
answers_at-returns-clause-looks g t c =
    looked_all c.args.evaluation.now.terms c.args.evaluation.now.ids c.args.evaluation.now.shapes c.args.levels c.args.place c.args.values.now c.loop-value.value-index c.loop-value-test.false c.args.footprint.now c.loop-value.footprint c.loop-value.invariant.looks

pub told_of_each-loop-place-init : goal.told_of_each-loop-place-init
told_of_each-loop-place-init g t c = record {
  entries = search rules;
  looks = places_none c.args.evaluation.now.terms c.args.evaluation.now.ids c.args.evaluation.now.shapes c.args.levels c.args.values.now c.args.footprint.now;
  kept = λ look h. h;
}

pub told_of_each-loop-place-preserved : goal.told_of_each-loop-place-preserved
told_of_each-loop-place-preserved g t c =
    let terms = c.args.evaluation.now.terms in
    let ids = c.args.evaluation.now.ids in
    let shapes = c.args.evaluation.now.shapes in
    let values = c.args.values.now in
    let i = c.loop-place.place-index in
    let place = get_or c.args.places.now i 0 in
    let within = c.requires.places i 0 c.loop-place-test.true in
    let entry : Told = record { node = c.shape.result.now.node; answers = c.from_vec.result } in
    let node = sym (ap node_number c.shape.ensures.is) in
    record {
      entries = entries_more terms ids shapes c.args.levels values c.args.places.now i c.loop-place.told.items c.push.new.self.items entry c.loop-place-test.true c.in_ok-push.ensures.items c.loop-place.invariant.entries node
          (ap (λ (answers : List Bool). length answers) c.from_vec.ensures ∙ c.in_ok-answers.ensures.as_many)
          (entry_right terms ids shapes c.args.levels values place entry node within (subst (λ (answers : List Bool). AtPlace terms shapes place (λ s m. AreAnswersTo (ConformsAt (graph_of terms ids) s c.args.levels m.node) terms values answers)) (sym c.from_vec.ensures) c.in_ok-answers.ensures.told));
      looks = places_more terms ids shapes c.args.levels values c.args.places.now i c.loop-place-test.true within c.args.footprint.now c.loop-place.footprint c.answers_at.new.footprint c.loop-place.invariant.looks c.in_ok-answers.ensures.looks;
      kept = λ look h. c.answers_at.ensures.kept look (c.loop-place.invariant.kept look h);
    }

pub told_of_each-returns-clause-as_many : goal.told_of_each-returns-clause-as_many
told_of_each-returns-clause-as_many g t c =
    entries_have c.args.evaluation.now.terms c.args.evaluation.now.ids c.args.evaluation.now.shapes c.args.levels c.args.values.now c.args.places.now c.loop-place.place-index c.loop-place-test.false c.loop-place.told.items c.loop-place.invariant.entries

pub told_of_each-returns-clause-right : goal.told_of_each-returns-clause-right
told_of_each-returns-clause-right g t c =
    entries_right c.args.evaluation.now.terms c.args.evaluation.now.ids c.args.evaluation.now.shapes c.args.levels c.args.values.now c.args.places.now c.loop-place.place-index c.loop-place-test.false c.loop-place.told.items c.loop-place.invariant.entries

pub told_of_each-returns-clause-looks : goal.told_of_each-returns-clause-looks
told_of_each-returns-clause-looks g t c =
    places_all c.args.evaluation.now.terms c.args.evaluation.now.ids c.args.evaluation.now.shapes c.args.levels c.args.values.now c.args.places.now c.loop-place.place-index c.loop-place-test.false c.args.footprint.now c.loop-place.footprint c.loop-place.invariant.looks

pub rows_at_each-rows_at-requires : goal.rows_at_each-rows_at-requires
rows_at_each-rows_at-requires g t c κs within =
    let less : 3 * c.args.levels < 3 * c.args.levels + 1 = omega arith in
    let values = c.args.values.now in
    let i = c.loop-value.value-index in
    let focus = c.requires.nodes.named (get_or values i 0) (Contains-get_or values i 0 c.loop-value-test.true) in
    (subst (λ (n : ℕ). 3 * c.args.levels < n) c.decreases less, (within.0, (within.1, (c.requires.place, focus))))

pub rows_at_each-loop-value-init : goal.rows_at_each-loop-value-init
rows_at_each-loop-value-init g t c = record {
  rows = search rules;
  looks = looked_none c.args.evaluation.now.terms c.args.evaluation.now.ids c.args.evaluation.now.shapes c.args.levels c.args.place c.args.values.now c.args.footprint.now;
  kept = λ look h. h;
}

pub rows_at_each-loop-value-preserved : goal.rows_at_each-loop-value-preserved
rows_at_each-loop-value-preserved g t c =
    let terms = c.args.evaluation.now.terms in
    let ids = c.args.evaluation.now.ids in
    let before = c.loop-value.invariant in
    record {
      rows = listed_more terms ids c.args.evaluation.now.shapes c.args.levels c.args.place c.args.values.now c.loop-value.value-index (map (λ l. l.items) c.loop-value.rows.items) (map (λ l. l.items) c.push.new.self.items) c.in_ok-more.more.items
          (ap (λ ls. map (λ l. l.items) ls) c.in_ok-push.ensures.items ∙ map-append (λ l. l.items) c.loop-value.rows.items (c.in_ok-more.more ∷ [])) before.rows c.in_ok-more.ensures.rows;
      looks = looked_more terms ids c.args.evaluation.now.shapes c.args.levels c.args.place c.args.values.now c.loop-value.value-index c.loop-value-test.true c.args.footprint.now c.loop-value.footprint c.rows_at.new.footprint before.looks c.in_ok-more.ensures.looks;
      kept = λ look h. c.rows_at.ensures.kept look (c.loop-value.invariant.kept look h);
    }

pub rows_at_each-property-requires : goal.rows_at_each-property-requires
rows_at_each-property-requires g t c =
    let many = c.loop-value.invariant.rows.0 in
    let lists = c.loop-value.rows.items in
    let mapped = length-map lists (λ list. list.items) in
    omega (arith, many, mapped, c.loop-value-test.false, c.loop-value.auto.value-index-end)

pub rows_at_each-returns-clause-rows : goal.rows_at_each-returns-clause-rows
rows_at_each-returns-clause-rows g t c =
    let terms = c.args.evaluation.now.terms in
    let ids = c.args.evaluation.now.ids in
    let values = c.args.values.now in
    let lists : List (List ResultRow) = map (λ list. list.items) c.loop-value.rows.items in
    IfOk-weaker c.property.result
    (λ all. (within : List Term) (shape : Term) → Lists (PropertyRow (told_rows within values lists) (with_property shape)) all.items)
    (λ all. CollectsAtEach terms ids c.args.evaluation.now.shapes c.args.levels c.args.place values all.items)
    (λ all given. listed_all terms ids c.args.evaluation.now.shapes c.args.levels c.args.place values c.loop-value.value-index lists all.items c.loop-value-test.false c.loop-value.auto.value-index-end c.loop-value.invariant.rows (λ within shape. (given within shape).members))
    c.property.ensures

pub rows_at_each-returns-clause-looks : goal.rows_at_each-returns-clause-looks
rows_at_each-returns-clause-looks g t c =
    let terms = c.args.evaluation.now.terms in
    let ids = c.args.evaluation.now.ids in
    let looks = looked_all terms ids c.args.evaluation.now.shapes c.args.levels c.args.place c.args.values.now c.loop-value.value-index c.loop-value-test.false c.args.footprint.now c.loop-value.footprint c.loop-value.invariant.looks in
    IfOk-weaker c.property.result
    (λ all. (within : List Term) (shape : Term) → Lists (PropertyRow (told_rows within c.args.values.now (map (λ list. list.items) c.loop-value.rows.items)) (with_property shape)) all.items)
    (λ _. AddsAtEach terms ids c.args.evaluation.now.shapes c.args.levels c.args.place c.args.values.now c.args.footprint.now c.loop-value.footprint)
    (λ _ _. looks)
    c.property.ensures

pub property_rows-loop-place-init : goal.property_rows-loop-place-init
property_rows-loop-place-init g t c = record {
  rows = search rules;
  looks = places_none c.args.evaluation.now.terms c.args.evaluation.now.ids c.args.evaluation.now.shapes c.args.levels c.args.values.now c.args.footprint.now;
  kept = λ look h. h;
}

pub property_rows-loop-place-preserved : goal.property_rows-loop-place-preserved
property_rows-loop-place-preserved g t c =
    let terms = c.args.evaluation.now.terms in
    let ids = c.args.evaluation.now.ids in
    let shapes = c.args.evaluation.now.shapes in
    let values = c.args.values.now in
    let places = c.args.places.now in
    let i = c.loop-place.place-index in
    let within = c.requires.places i 0 c.loop-place-test.true in
    record {
      rows = λ s f stand.
          loop_more (PropertyAt (around terms ids s c.args.levels values f) (named_shapes terms shapes)) places i 0 c.loop-place.rows.items c.append.new.self.items c.loop-place-test.true (c.loop-place.invariant.rows s f stand)
          (c.in_ok-more.more.items, c.in_ok-append.ensures.items, property_at terms ids shapes c.args.levels (get_or places i 0) values f c.in_ok-more.more.items within c.in_ok-more.ensures.rows s stand);
      looks = places_more terms ids shapes c.args.levels values places i c.loop-place-test.true within c.args.footprint.now c.loop-place.footprint c.rows_at_each.new.footprint c.loop-place.invariant.looks c.in_ok-more.ensures.looks;
      kept = λ look h. c.rows_at_each.ensures.kept look (c.loop-place.invariant.kept look h);
    }

pub property_rows-returns-clause-rows : goal.property_rows-returns-clause-rows
property_rows-returns-clause-rows g t c = λ s f stand.
    let terms = c.args.evaluation.now.terms in
    loop_all (PropertyAt (around terms c.args.evaluation.now.ids s c.args.levels c.args.values.now f) (named_shapes terms c.args.evaluation.now.shapes)) c.args.places.now c.loop-place.place-index c.loop-place.rows.items c.loop-place-test.false (c.loop-place.invariant.rows s f stand)

pub property_rows-returns-clause-looks : goal.property_rows-returns-clause-looks
property_rows-returns-clause-looks g t c =
    places_all c.args.evaluation.now.terms c.args.evaluation.now.ids c.args.evaluation.now.shapes c.args.levels c.args.values.now c.args.places.now c.loop-place.place-index c.loop-place-test.false c.args.footprint.now c.loop-place.footprint c.loop-place.invariant.looks

pub rows_at-returns-then-levels-eq0 : goal.rows_at-returns-then-levels-eq0
rows_at-returns-then-levels-eq0 g t c =
    let terms = c.args.evaluation.now.terms in
    let ids = c.args.evaluation.now.ids in
    let shapes = c.args.evaluation.now.shapes in
    let x = c.shape-shape.result.now in
    let taken = c.shape-shape.ensures.is in
    let why : (c.args.levels ≡ 0) ⊎ IsTrue x.is_deactivated = elim c.then-levels-eq0.branch [
      | rows_at-then-levels-eq0-via-then-levels-eq0 w ↦ inl (omega (arith, w.if-levels-eq0.true))
      | rows_at-then-levels-eq0-via-else-levels-eq0+then-shape w ↦ inr w.if-shape.true
    ] in
    record {
      rows = subst (λ (rows : List ResultRow). CollectsAt terms ids shapes c.args.levels c.args.place c.args.focus rows) (sym c.new.ensures.items) (nothing_at terms ids shapes c.args.place x taken c.args.focus c.args.levels why);
      looks = no_looks_at terms ids shapes c.args.place x taken c.args.focus c.args.levels why c.args.footprint.now;
      kept = λ look h. h;
    }

pub rows_at-told_of_each-requires : goal.rows_at-told_of_each-requires
rows_at-told_of_each-requires g t c κs within =
    let terms = c.args.evaluation.now.terms in
    let ids = c.args.evaluation.now.ids in
    let shapes = c.args.evaluation.now.shapes in
    let x = c.shape-shape.result.now in
    let taken = c.shape-shape.ensures.is in
    let less : 3 * (c.args.levels - 1) + 2 < 3 * c.args.levels = omega (arith, c.if-levels-eq0.false) in
    let places = subst (λ (ns : List ℕ). All (λ n. n < length shapes) ns) (sym c.deref.ensures.value) (places_at terms shapes c.recall.ensures.bound c.args.place x taken c.as_slice.result.now c.in_ok-asked.asked.items c.as_slice.ensures c.in_ok-asked.ensures) in
    let values = values_at terms shapes c.recall.ensures.bound c.args.place x taken ids c.graph-graph.ensures c.args.focus c.in_ok-values.values.items c.recall.ensures.numbering c.recall.ensures.numbered c.requires.focus c.in_ok-values.ensures.values in
    let nodes = subst (λ (ns : List ℕ). AreNodes terms ns) (sym c.deref-2.ensures.value) values.nodes in
    (subst (λ (n : ℕ). 3 * (c.args.levels - 1) + 2 < n) c.decreases less, (within.0, (within.1, (places, nodes))))

pub rows_at-own_rows-requires-clause-nodes : goal.rows_at-own_rows-requires-clause-nodes
rows_at-own_rows-requires-clause-nodes g t c =
    let terms = c.args.evaluation.now.terms in
    let shapes = c.args.evaluation.now.shapes in
    let x = c.shape-shape.result.now in
    let taken = c.shape-shape.ensures.is in
    let values = values_at terms shapes c.recall.ensures.bound c.args.place x taken c.args.evaluation.now.ids c.graph-graph.ensures c.args.focus c.in_ok-values.values.items c.recall.ensures.numbering c.recall.ensures.numbered c.requires.focus c.in_ok-values.ensures.values in
    subst (λ (ns : List ℕ). AreNodes terms ns) (sym c.deref-4.ensures.value) values.nodes

pub rows_at-own_rows-requires-clause-told : goal.rows_at-own_rows-requires-clause-told
rows_at-own_rows-requires-clause-told g t c = λ p asks.
    let asked = subst (λ (ns : List ℕ). Contains ns p) (sym c.deref.ensures.value) ((c.in_ok-asked.ensures p).1 (subst (λ (ks : List (Constraint ℕ)). AsksSome c.shape-shape.result.now ks p) (sym c.as_slice.ensures) asks)) in
    subst (λ (told : List Told). length (answers_of told (node_at c.args.evaluation.now.shapes p)) ≡ length c.deref-4.result.now) (sym c.deref-3.ensures.value)
    (c.in_ok-told.ensures.as_many p asked ∙ ap (λ (ns : List ℕ). length ns) (c.deref-2.ensures.value ∙ sym c.deref-4.ensures.value))

pub rows_at-returns-clause-rows : goal.rows_at-returns-clause-rows
rows_at-returns-clause-rows g t c =
    let terms = c.args.evaluation.now.terms in
    let ids = c.args.evaluation.now.ids in
    let shapes = c.args.evaluation.now.shapes in
    let named = named_shapes terms shapes in
    let f = c.args.focus in
    let below = c.args.levels - 1 in
    let x = c.shape-shape.result.now in
    let taken = c.shape-shape.ensures.is in
    let nodes = c.in_ok-values.values.items in
    let told = c.deref-3.result.now in
    let own = c.in_ok-rows.rows.items in
    let more = c.in_ok-more.more.items in
    let values = values_at terms shapes c.recall.ensures.bound c.args.place x taken ids c.graph-graph.ensures f nodes c.recall.ensures.numbering c.recall.ensures.numbered c.requires.focus c.in_ok-values.ensures.values in
    let own_given = subst (λ (ns : List ℕ). WhereRight terms ids shapes ns told (AsksSome x x.constraints) (λ s n. All (IsLinked named) (map (read_constraint (term_at terms)) x.constraints)
    → Collects (OwnRow (around terms ids s n ns f) named (read_shape (term_at terms) x) (term_at terms f)) own)) c.deref-4.ensures.value c.in_ok-rows.ensures.rows in
    let more_given = subst (λ (ns : List ℕ). (s : List Triple) (f : ℕ) → StandFor named s → Collects (FromSome c.as_slice-properties.result.now (PropertyAt (around terms ids s below ns f) named)) more) c.deref-5.ensures.value c.in_ok-more.ensures.rows in
    let right_given = subst (λ (ts : List Told). (s : List Triple) → StandFor named s → AreRight terms ids s below shapes c.deref-2.result.now ts (Contains c.deref.result.now)) (sym c.deref-3.ensures.value) c.in_ok-told.ensures.right in
    let asked = λ (p : ℕ) (asks : AsksSome x x.constraints p). subst (λ (ns : List ℕ). Contains ns p) (sym c.deref.ensures.value) ((c.in_ok-asked.ensures p).1 (subst (λ (ks : List (Constraint ℕ)). AsksSome x ks p) (sym c.as_slice.ensures) asks)) in
    let linked = λ (s : List Triple) (stand : StandFor named s). stand.linked (read_shape (term_at terms) x) (of_place named c.args.place (read_shape (term_at terms) x) (named_place terms shapes c.args.place x taken)) in
    let right = subst (λ (ns : List ℕ). (s : List Triple) → StandFor named s → AreRight terms ids s below shapes ns told (AsksSome x x.constraints)) c.deref-2.ensures.value (λ s stand p asks. right_given s stand p (asked p asks)) in
    all_at terms ids shapes c.args.place x taken f c.args.levels below (omega (arith, c.if-levels-eq0.false)) nodes values (λ d. let off = c.if-shape.false in cc) own more c.append.new.self.items
    (λ s stand. own_given s below (right s stand) (linked s stand))
    (λ s stand. subst (λ (ps : List ℕ). Collects (FromSome ps (PropertyAt (around terms ids s below nodes f) named)) more) c.as_slice-properties.ensures (more_given s f stand))
    c.in_ok-append.ensures.items

pub rows_at-returns-clause-looks : goal.rows_at-returns-clause-looks
rows_at-returns-clause-looks g t c =
    let terms = c.args.evaluation.now.terms in
    let ids = c.args.evaluation.now.ids in
    let graph = graph_of terms ids in
    let shapes = c.args.evaluation.now.shapes in
    let f = c.args.focus in
    let below = c.args.levels - 1 in
    let x = c.shape-shape.result.now in
    let taken = c.shape-shape.ensures.is in
    let nodes = c.in_ok-values.values.items in
    let asked = c.in_ok-asked.asked.items in
    let walked = c.value_nodes.new.footprint in
    let told = c.told_of_each.new.footprint in
    let own = c.own_rows.new.footprint in
    let new = c.property_rows.new.footprint in
    let values = values_at terms shapes c.recall.ensures.bound c.args.place x taken ids c.graph-graph.ensures f nodes c.recall.ensures.numbering c.recall.ensures.numbered c.requires.focus c.in_ok-values.ensures.values in
    let paths = subst (λ (is : List Ids). AtNumbers is x.path f (λ ns. AddsLooks ns (OptionalReads (graph_of ns is) (read_optional_path (term_at ns) x.path) (term_at ns f)) c.args.footprint.now walked)) c.graph-graph.ensures c.in_ok-values.ensures.looks
    terms c.recall.ensures.numbering c.recall.ensures.numbered (bound_at terms shapes c.recall.ensures.bound c.args.place x taken).path c.requires.focus in
    let are = subst (λ (ks : List (Constraint ℕ)). (p : ℕ) → Contains asked p ↔ AsksSome x ks p) c.as_slice.ensures c.in_ok-asked.ensures in
    let others = subst (λ (ps : List ℕ). AddsAtPlaces terms ids shapes below ps nodes walked told) c.deref.ensures.value (subst (λ (ns : List ℕ). AddsAtPlaces terms ids shapes below c.deref.result.now ns walked told) c.deref-2.ensures.value c.in_ok-told.ensures.looks) in
    let constraints = subst (λ (ns : List ℕ). AddsLooks terms (ReadsOfSome (map (read_constraint (term_at terms)) x.constraints) (ConstraintReads graph (HasNode terms ns) (term_at terms f))) told own) c.deref-4.ensures.value c.in_ok-rows.ensures.looks in
    let properties = subst (λ (ps : List ℕ). AddsAtPlaces terms ids shapes below ps nodes own new) c.as_slice-properties.ensures (subst (λ (ns : List ℕ). AddsAtPlaces terms ids shapes below c.as_slice-properties.result.now ns own new) c.deref-5.ensures.value c.in_ok-more.ensures.looks) in
    all_looks_at terms ids shapes c.args.place x taken f c.recall.ensures.bound c.args.levels below (omega (arith, c.if-levels-eq0.false)) nodes values (λ d. let off = c.if-shape.false in cc) asked are c.args.footprint.now walked told own new paths others constraints properties

pub answers_at-returns-clause-kept : goal.answers_at-returns-clause-kept
answers_at-returns-clause-kept g t c = c.loop-value.invariant.kept

pub answers_at-returns-in_err-rows-clause-kept : goal.answers_at-returns-in_err-rows-clause-kept
answers_at-returns-in_err-rows-clause-kept g t c = λ look h. c.rows_at.ensures.kept look (c.loop-value.invariant.kept look h)

pub answers_at-returns-in_err-push-clause-kept : goal.answers_at-returns-in_err-push-clause-kept
answers_at-returns-in_err-push-clause-kept g t c = λ look h. c.rows_at.ensures.kept look (c.loop-value.invariant.kept look h)

pub told_of_each-returns-clause-kept : goal.told_of_each-returns-clause-kept
told_of_each-returns-clause-kept g t c = c.loop-place.invariant.kept

pub told_of_each-returns-in_err-answers-clause-kept : goal.told_of_each-returns-in_err-answers-clause-kept
told_of_each-returns-in_err-answers-clause-kept g t c = λ look h. c.answers_at.ensures.kept look (c.loop-place.invariant.kept look h)

pub told_of_each-returns-in_err-push-clause-kept : goal.told_of_each-returns-in_err-push-clause-kept
told_of_each-returns-in_err-push-clause-kept g t c = λ look h. c.answers_at.ensures.kept look (c.loop-place.invariant.kept look h)

pub rows_at_each-returns-clause-kept : goal.rows_at_each-returns-clause-kept
rows_at_each-returns-clause-kept g t c = c.loop-value.invariant.kept

pub rows_at_each-returns-in_err-more-clause-kept : goal.rows_at_each-returns-in_err-more-clause-kept
rows_at_each-returns-in_err-more-clause-kept g t c = λ look h. c.rows_at.ensures.kept look (c.loop-value.invariant.kept look h)

pub rows_at_each-returns-in_err-push-clause-kept : goal.rows_at_each-returns-in_err-push-clause-kept
rows_at_each-returns-in_err-push-clause-kept g t c = λ look h. c.rows_at.ensures.kept look (c.loop-value.invariant.kept look h)

pub property_rows-returns-clause-kept : goal.property_rows-returns-clause-kept
property_rows-returns-clause-kept g t c = c.loop-place.invariant.kept

pub property_rows-returns-in_err-more-clause-kept : goal.property_rows-returns-in_err-more-clause-kept
property_rows-returns-in_err-more-clause-kept g t c = λ look h. c.rows_at_each.ensures.kept look (c.loop-place.invariant.kept look h)

pub property_rows-returns-in_err-append-clause-kept : goal.property_rows-returns-in_err-append-clause-kept
property_rows-returns-in_err-append-clause-kept g t c = λ look h. c.rows_at_each.ensures.kept look (c.loop-place.invariant.kept look h)

pub rows_at-returns-in_err-values-clause-kept : goal.rows_at-returns-in_err-values-clause-kept
rows_at-returns-in_err-values-clause-kept g t c = λ look h. c.value_nodes.ensures.kept look h

pub rows_at-returns-in_err-asked-clause-kept : goal.rows_at-returns-in_err-asked-clause-kept
rows_at-returns-in_err-asked-clause-kept g t c = λ look h. c.value_nodes.ensures.kept look h

pub rows_at-returns-in_err-told-clause-kept : goal.rows_at-returns-in_err-told-clause-kept
rows_at-returns-in_err-told-clause-kept g t c = λ look h. c.told_of_each.ensures.kept look (c.value_nodes.ensures.kept look h)

pub rows_at-returns-in_err-rows-clause-kept : goal.rows_at-returns-in_err-rows-clause-kept
rows_at-returns-in_err-rows-clause-kept g t c = λ look h. c.own_rows.ensures.kept look (c.told_of_each.ensures.kept look (c.value_nodes.ensures.kept look h))

pub rows_at-returns-in_err-more-clause-kept : goal.rows_at-returns-in_err-more-clause-kept
rows_at-returns-in_err-more-clause-kept g t c = λ look h. c.property_rows.ensures.kept look (c.own_rows.ensures.kept look (c.told_of_each.ensures.kept look (c.value_nodes.ensures.kept look h)))

pub rows_at-returns-in_err-append-clause-kept : goal.rows_at-returns-in_err-append-clause-kept
rows_at-returns-in_err-append-clause-kept g t c = λ look h. c.property_rows.ensures.kept look (c.own_rows.ensures.kept look (c.told_of_each.ensures.kept look (c.value_nodes.ensures.kept look h)))

pub rows_at-returns-clause-kept : goal.rows_at-returns-clause-kept
rows_at-returns-clause-kept g t c = λ look h. c.property_rows.ensures.kept look (c.own_rows.ensures.kept look (c.told_of_each.ensures.kept look (c.value_nodes.ensures.kept look h)))
