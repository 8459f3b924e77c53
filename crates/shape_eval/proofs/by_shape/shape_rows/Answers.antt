use Rattle.std.proofs.Common.{◌≡◌, ℕ, Bool, List, [], ◌∷◌, IfOk, map, sym, subst, refl, arith}
use Rattle.std.proofs.lemmas.Result.{IfOk-weaker}
use Rattle.rdf_model.specs.declared.ids.Ids.{Ids}
use Rattle.rdf_model.specs.Numbers.{term_at}
use Rattle.shape_model.specs.declared.component.Component.TheVariants as components
use Rattle.shape_model.specs.Components.{RowsOf, row_of}
use Rattle.component_rows.specs.Conformance.{told_shapes}
use Rattle.component_rows.specs.Listed.{ListsRows, untold}
use Rattle.component_rows.proofs.Collecting.{lists_same}
use Rattle.shape_ast.specs.declared.component.ShapeComponent.{ShapeComponent}
use Rattle.shape_ast.specs.Components.{shape_component}
use Rattle.shape_ast.specs.Readings.{named_shapes}
use Rattle.shape_ast.specs.Standing.{IsAt}
use Rattle.shape_eval.specs.Around.{around}
use Rattle.shape_eval.specs.Told.{WhereRight, answers_of, node_at}
use Rattle.shape_eval.proofs.Asking.{one_right, one_told}
use Rattle.shape_eval.proofs.Lookups.{is_at, node_got, one_at}
use Rattle.shape_eval.proofs.Telling.{node_same, not_same, only_named}
use Rattle.shape_eval.proofs.by_shape.shape_rows.Goals as goal

pub not-requires : goal.not-requires
not-requires g c =
    let place = c.args.place in
    let node = node_got c.args.shapes.now place c.index-shapes-place.result c.requires.place in
    one_told c.args.shapes.now c.args.told.now c.args.site.now.values place c.args.site.now.parameter (map (λ a. a.items) c.deref.result.now)
    (subst (λ ls. map (λ a. a.items) ls ≡ answers_of c.args.told.now (node_at c.args.shapes.now place) ∷ []) (sym c.deref.ensures.value) (subst (λ (m : ℕ). map (λ a. a.items) c.in_ok-answers.answers.items ≡ answers_of c.args.told.now m ∷ []) node c.in_ok-answers.ensures))
    c.requires.told

pub returns-in-Not : goal.returns-in-Not
returns-in-Not g c =
    let terms = c.args.site.now.terms in
    let shapes = c.args.shapes.now in
    let place = c.args.place in
    let values = c.args.site.now.values in
    let f = term_at terms c.args.site.now.focus in
    let q = term_at terms c.args.site.now.parameter in
    let lists : List (List Bool) = map (λ a. a.items) c.deref.result.now in
    let node = node_got shapes place c.index-shapes-place.result c.requires.place in
    let looked : lists ≡ answers_of c.args.told.now (node_at shapes place) ∷ [] =
    subst (λ ls. map (λ a. a.items) ls ≡ answers_of c.args.told.now (node_at shapes place) ∷ []) (sym c.deref.ensures.value) (subst (λ (m : ℕ). map (λ a. a.items) c.in_ok-answers.answers.items ≡ answers_of c.args.told.now m ∷ []) node c.in_ok-answers.ensures) in
    let told = one_told shapes c.args.told.now values place c.args.site.now.parameter lists looked c.requires.told in
    let row = row_of components.Not c.args.site.now.source f q in
    subst (λ (k : ShapeComponent). IfOk c.not.result (λ rows. (ids : List Ids) → WhereRight terms ids shapes values c.args.told.now (λ n. place ≡ n)
    (λ s n. IsAt (named_shapes terms shapes) place q → ListsRows (shape_component k) (around terms ids s n values c.args.site.now.focus) untold c.args.site.now.source f q rows.items))) (sym c.in-Not.is)
    (IfOk-weaker c.not.result
    (λ rows. ListsRows components.Not (told_shapes terms (c.args.site.now.parameter ∷ []) values lists) untold c.args.site.now.source f q rows.items)
    (λ rows. (ids : List Ids) → WhereRight terms ids shapes values c.args.told.now (λ n. place ≡ n)
    (λ s n. IsAt (named_shapes terms shapes) place q → ListsRows components.Not (around terms ids s n values c.args.site.now.focus) untold c.args.site.now.source f q rows.items))
    (λ rows h ids s n right at. lists_same (RowsOf components.Not (told_shapes terms (c.args.site.now.parameter ∷ []) values lists) untold q row) (RowsOf components.Not (around terms ids s n values c.args.site.now.focus) untold q row) rows.items
    (not_same terms c.recall.ensures.numbering values c.recall.ensures.nodes ids s n c.args.site.now.focus (c.args.site.now.parameter ∷ []) (only_named terms c.args.site.now.parameter c.recall.ensures.parameter_named) lists told
    (one_right shapes c.args.told.now values place c.args.site.now.parameter lists looked terms ids s n
    (one_at (named_shapes terms shapes) place (term_at terms (node_at shapes place)) q (is_at terms shapes place c.requires.place) at) right) q row (omega arith) refl) h)
    c.not.ensures)

pub node-requires : goal.node-requires
node-requires g c =
    let place = c.args.place in
    let node = node_got c.args.shapes.now place c.index-shapes-place.result c.requires.place in
    one_told c.args.shapes.now c.args.told.now c.args.site.now.values place c.args.site.now.parameter (map (λ a. a.items) c.deref-in-Node.result.now)
    (subst (λ ls. map (λ a. a.items) ls ≡ answers_of c.args.told.now (node_at c.args.shapes.now place) ∷ []) (sym c.deref-in-Node.ensures.value) (subst (λ (m : ℕ). map (λ a. a.items) c.in_ok-answers.answers.items ≡ answers_of c.args.told.now m ∷ []) node c.in_ok-answers.ensures))
    c.requires.told

pub returns : goal.returns
returns g c =
    let terms = c.args.site.now.terms in
    let shapes = c.args.shapes.now in
    let place = c.args.place in
    let values = c.args.site.now.values in
    let f = term_at terms c.args.site.now.focus in
    let q = term_at terms c.args.site.now.parameter in
    let lists : List (List Bool) = map (λ a. a.items) c.deref-in-Node.result.now in
    let node = node_got shapes place c.index-shapes-place.result c.requires.place in
    let looked : lists ≡ answers_of c.args.told.now (node_at shapes place) ∷ [] =
    subst (λ ls. map (λ a. a.items) ls ≡ answers_of c.args.told.now (node_at shapes place) ∷ []) (sym c.deref-in-Node.ensures.value) (subst (λ (m : ℕ). map (λ a. a.items) c.in_ok-answers.answers.items ≡ answers_of c.args.told.now m ∷ []) node c.in_ok-answers.ensures) in
    let told = one_told shapes c.args.told.now values place c.args.site.now.parameter lists looked c.requires.told in
    let row = row_of components.Node c.args.site.now.source f q in
    subst (λ (k : ShapeComponent). IfOk c.node.result (λ rows. (ids : List Ids) → WhereRight terms ids shapes values c.args.told.now (λ n. place ≡ n)
    (λ s n. IsAt (named_shapes terms shapes) place q → ListsRows (shape_component k) (around terms ids s n values c.args.site.now.focus) untold c.args.site.now.source f q rows.items))) (sym c.in-Node.is)
    (IfOk-weaker c.node.result
    (λ rows. ListsRows components.Node (told_shapes terms (c.args.site.now.parameter ∷ []) values lists) untold c.args.site.now.source f q rows.items)
    (λ rows. (ids : List Ids) → WhereRight terms ids shapes values c.args.told.now (λ n. place ≡ n)
    (λ s n. IsAt (named_shapes terms shapes) place q → ListsRows components.Node (around terms ids s n values c.args.site.now.focus) untold c.args.site.now.source f q rows.items))
    (λ rows h ids s n right at. lists_same (RowsOf components.Node (told_shapes terms (c.args.site.now.parameter ∷ []) values lists) untold q row) (RowsOf components.Node (around terms ids s n values c.args.site.now.focus) untold q row) rows.items
    (node_same terms c.recall.ensures.numbering values c.recall.ensures.nodes ids s n c.args.site.now.focus (c.args.site.now.parameter ∷ []) (only_named terms c.args.site.now.parameter c.recall.ensures.parameter_named) lists told
    (one_right shapes c.args.told.now values place c.args.site.now.parameter lists looked terms ids s n
    (one_at (named_shapes terms shapes) place (term_at terms (node_at shapes place)) q (is_at terms shapes place c.requires.place) at) right) q row (omega arith) refl) h)
    c.node.ensures)
