use Rattle.std.proofs.Common.{◌≡◌, ◌∙◌, ◌<◌, ℕ, Bool, List, ◌∷◌, map, length, get_or, sym, ap, subst}
use Rattle.std.specs.Prelude.{◌⊎◌, MatchOption, Option}
use Rattle.std.specs.List.{Contains}
use Rattle.std.proofs.lemmas.Result.{IfOk-weaker}
use Rattle.rdf_model.specs.declared.ids.Ids.{Ids}
use Rattle.rdf_model.specs.Numbers.{graph_of, term_at}
use Rattle.shape_model.specs.declared.component.Component.TheVariants as components
use Rattle.shape_model.specs.Components.{RowsOf, row_of}
use Rattle.shape_model.specs.TermTests.{IsMore}
use Rattle.component_rows.specs.Answers.{AreAnswersTo}
use Rattle.component_rows.specs.Conformance.{told_shapes}
use Rattle.component_rows.specs.Listed.{ListsRows}
use Rattle.component_rows.proofs.Collecting.{lists_same}
use Rattle.qualified_shapes.specs.Qualified.{with_qualified}
use Rattle.shape_ast.specs.Readings.{named_shapes, read_shape}
use Rattle.shape_ast.specs.Standing.{AreAt, IsAt, shape_reading}
use Rattle.shape_eval.specs.Around.{around}
use Rattle.shape_eval.specs.Told.{AreRight, ConformsAt, HaveAnswers, WhereRight, answers_of, node_at, places_in}
use Rattle.shape_eval.proofs.Asking.{all_right, all_told, beside_named, node_bound, nodes_bound, qualified_places}
use Rattle.shape_eval.proofs.Lookups.{are_at, is_at, node_got}
use Rattle.shape_eval.proofs.Telling.{counts_alike}
use Rattle.shape_eval.proofs.qualified.qualified_max_rows.Goals as goal

pub qualified_max_count-requires-clause-siblings : goal.qualified_max_count-requires-clause-siblings
qualified_max_count-requires-clause-siblings g c =
    let terms = c.args.site.now.terms in
    let shapes = c.args.shapes.now in
    let shape = c.args.shape.now in
    let told = c.args.told.now in
    let values = c.args.site.now.values in
    let place = c.in-Some.place in
    let node = (get_or shapes place c.index-shapes-place.result).node in
    let others = c.deref-2.result.now in
    let within : place < length shapes = subst (λ (o : Option ℕ). MatchOption o (Unit {0}) (λ n. n < length shapes)) c.in-Some.is c.requires.shape.qualified in
    let got = node_got shapes place c.index-shapes-place.result within in
    let beside : others ≡ map (node_at shapes) shape.siblings = c.deref-2.ensures.value ∙ c.in_ok-siblings.ensures ∙ ap (map (node_at shapes)) c.as_slice.ensures in
    let bound = nodes_bound terms shapes c.requires.bound shape.siblings others beside c.requires.shape.siblings in
    bound

pub qualified_max_count-requires-clause-answers : goal.qualified_max_count-requires-clause-answers
qualified_max_count-requires-clause-answers g c =
    let terms = c.args.site.now.terms in
    let shapes = c.args.shapes.now in
    let shape = c.args.shape.now in
    let told = c.args.told.now in
    let values = c.args.site.now.values in
    let place = c.in-Some.place in
    let node = (get_or shapes place c.index-shapes-place.result).node in
    let others = c.deref-2.result.now in
    let within : place < length shapes = subst (λ (o : Option ℕ). MatchOption o (Unit {0}) (λ n. n < length shapes)) c.in-Some.is c.requires.shape.qualified in
    let got = node_got shapes place c.index-shapes-place.result within in
    let beside : others ≡ map (node_at shapes) shape.siblings = c.deref-2.ensures.value ∙ c.in_ok-siblings.ensures ∙ ap (map (node_at shapes)) c.as_slice.ensures in
    let bound = nodes_bound terms shapes c.requires.bound shape.siblings others beside c.requires.shape.siblings in
    let are : (node ∷ others) ≡ map (node_at shapes) (place ∷ shape.siblings) = λ j. got j ∷ beside j in
    let lists : List (List Bool) = map (λ a. a.items) c.deref-3.result.now in
    let looked : lists ≡ map (answers_of told) (node ∷ others) = ap (map (λ a. a.items)) c.deref-3.ensures.value ∙ c.in_ok-answers.ensures ∙ ap (λ (ns : List ℕ). map (answers_of told) (node ∷ ns)) (c.deref.ensures.value ∙ sym c.deref-2.ensures.value) in
    let have : HaveAnswers shapes values told (Contains (place ∷ shape.siblings)) = qualified_places place shape.siblings (λ p. length (answers_of told (node_at shapes p)) ≡ length values)
    (subst (λ (o : Option ℕ). (n : ℕ) → Contains (places_in o) n ⊎ Contains shape.siblings n → length (answers_of told (node_at shapes n)) ≡ length values) c.in-Some.is c.requires.told) in
    let agreed = all_told shapes told values (place ∷ shape.siblings) (node ∷ others) are lists looked have in
    agreed

pub returns : goal.returns
returns g c =
    let terms = c.args.site.now.terms in
    let shapes = c.args.shapes.now in
    let shape = c.args.shape.now in
    let told = c.args.told.now in
    let values = c.args.site.now.values in
    let place = c.in-Some.place in
    let node = (get_or shapes place c.index-shapes-place.result).node in
    let others = c.deref-2.result.now in
    let within : place < length shapes = subst (λ (o : Option ℕ). MatchOption o (Unit {0}) (λ n. n < length shapes)) c.in-Some.is c.requires.shape.qualified in
    let got = node_got shapes place c.index-shapes-place.result within in
    let beside : others ≡ map (node_at shapes) shape.siblings = c.deref-2.ensures.value ∙ c.in_ok-siblings.ensures ∙ ap (map (node_at shapes)) c.as_slice.ensures in
    let bound = nodes_bound terms shapes c.requires.bound shape.siblings others beside c.requires.shape.siblings in
    let are : (node ∷ others) ≡ map (node_at shapes) (place ∷ shape.siblings) = λ j. got j ∷ beside j in
    let lists : List (List Bool) = map (λ a. a.items) c.deref-3.result.now in
    let looked : lists ≡ map (answers_of told) (node ∷ others) = ap (map (λ a. a.items)) c.deref-3.ensures.value ∙ c.in_ok-answers.ensures ∙ ap (λ (ns : List ℕ). map (answers_of told) (node ∷ ns)) (c.deref.ensures.value ∙ sym c.deref-2.ensures.value) in
    let have : HaveAnswers shapes values told (Contains (place ∷ shape.siblings)) = qualified_places place shape.siblings (λ p. length (answers_of told (node_at shapes p)) ≡ length values)
    (subst (λ (o : Option ℕ). (n : ℕ) → Contains (places_in o) n ⊎ Contains shape.siblings n → length (answers_of told (node_at shapes n)) ≡ length values) c.in-Some.is c.requires.told) in
    let agreed = all_told shapes told values (place ∷ shape.siblings) (node ∷ others) are lists looked have in
    let f = term_at terms c.args.site.now.focus in
    let q = term_at terms c.args.site.now.parameter in
    let row = row_of components.QualifiedMaxCount c.args.site.now.source f q in
    let named = named_shapes terms shapes in
    let read = read_shape (term_at terms) shape in
    let node_has : node < length terms = subst (λ (m : ℕ). m < length terms) (sym got) (node_bound terms shapes c.requires.bound place within) in
    let at : IsAt named place (term_at terms node) = subst (λ (m : ℕ). IsAt named place (term_at terms m)) (sym got) (is_at terms shapes place within) in
    let all_at : AreAt named shape.siblings (map (term_at terms) others) = subst (λ (ns : List ℕ). AreAt named shape.siblings (map (term_at terms) ns)) (sym beside) (are_at terms shapes shape.siblings c.requires.shape.siblings) in
    IfOk-weaker c.qualified_max_count.result
    (λ rows. ListsRows components.QualifiedMaxCount (told_shapes terms (node ∷ others) values lists) (with_qualified (term_at terms node) (map (term_at terms) others)) c.args.site.now.source f q rows.items)
    (λ rows. (ids : List Ids) → WhereRight terms ids shapes values told (λ n. Contains (places_in shape.qualified) n ⊎ Contains shape.siblings n)
    (λ s n. ListsRows components.QualifiedMaxCount (around terms ids s n values c.args.site.now.focus) (shape_reading named read) c.args.site.now.source f q rows.items))
    (λ rows h ids s n right.
    let right_all : AreRight terms ids s n shapes values told (Contains (place ∷ shape.siblings)) = qualified_places place shape.siblings (λ p. AreAnswersTo (ConformsAt (graph_of terms ids) s n (term_at terms (node_at shapes p))) terms values (answers_of told (node_at shapes p)))
    (subst (λ (o : Option ℕ). (m : ℕ) → Contains (places_in o) m ⊎ Contains shape.siblings m → AreAnswersTo (ConformsAt (graph_of terms ids) s n (term_at terms (node_at shapes m))) terms values (answers_of told (node_at shapes m))) c.in-Some.is right) in
    lists_same (RowsOf components.QualifiedMaxCount (told_shapes terms (node ∷ others) values lists) (with_qualified (term_at terms node) (map (term_at terms) others)) q row) (RowsOf components.QualifiedMaxCount (around terms ids s n values c.args.site.now.focus) (shape_reading named read) q row) rows.items
    (counts_alike terms c.recall.ensures.numbering values c.recall.ensures.nodes ids s n c.args.site.now.focus node others (beside_named terms node others node_has bound) lists agreed
    (all_right shapes told values (place ∷ shape.siblings) (node ∷ others) are lists looked terms ids s n right_all) named read place c.in-Some.is at all_at row (λ m. IsMore m q)) h)
    c.qualified_max_count.ensures
