use Rattle.std.proofs.Common.{◌≡◌, ◌∙◌, ℕ, Bool, List, IfOk, map, sym, ap, subst}
use Rattle.std.specs.List.{Contains}
use Rattle.std.proofs.lemmas.Result.{IfOk-weaker}
use Rattle.rdf_model.specs.declared.term.Term.{Term}
use Rattle.rdf_model.specs.declared.ids.Ids.{Ids}
use Rattle.rdf_model.specs.Numbers.{term_at}
use Rattle.shape_model.specs.declared.component.Component.TheVariants as components
use Rattle.shape_model.specs.Components.{RowsOf, row_of}
use Rattle.component_rows.specs.Conformance.{told_shapes}
use Rattle.component_rows.specs.Listed.{Lists, ListsRows, with_list}
use Rattle.component_rows.proofs.Collecting.{lists_same}
use Rattle.shape_ast.specs.declared.component.ShapesComponent.{ShapesComponent}
use Rattle.shape_ast.specs.Components.{shapes_component}
use Rattle.shape_ast.specs.Readings.{named_shapes}
use Rattle.shape_ast.specs.Standing.{AreAt}
use Rattle.shape_eval.specs.Around.{around}
use Rattle.shape_eval.specs.Told.{WhereRight, answers_of, node_at}
use Rattle.shape_eval.proofs.Asking.{all_right, all_told, nodes_bound}
use Rattle.shape_eval.proofs.Lookups.{are_at, one_list}
use Rattle.shape_eval.proofs.Telling.{and_same, or_same, xone_same}
use Rattle.shape_eval.proofs.by_shape.shapes_rows.Goals as goal

pub and-requires-clause-answers : goal.and-requires-clause-answers
and-requires-clause-answers g c =
    let terms = c.args.site.now.terms in
    let shapes = c.args.shapes.now in
    let places = c.args.places.now in
    let told = c.args.told.now in
    let values = c.args.site.now.values in
    let nodes = c.deref-in-And.result.now in
    let are : nodes ≡ map (node_at shapes) places = c.deref-in-And.ensures.value ∙ c.in_ok-nodes.ensures in
    let lists : List (List Bool) = map (λ a. a.items) c.deref-in-And-2.result.now in
    let looked : lists ≡ map (answers_of told) nodes = ap (map (λ a. a.items)) c.deref-in-And-2.ensures.value ∙ c.in_ok-answers.ensures ∙ ap (map (answers_of told)) (c.deref.ensures.value ∙ sym c.deref-in-And.ensures.value) in
    all_told shapes told values places nodes are lists looked c.requires.told

pub and-requires-clause-members : goal.and-requires-clause-members
and-requires-clause-members g c =
    let terms = c.args.site.now.terms in
    let shapes = c.args.shapes.now in
    let places = c.args.places.now in
    let told = c.args.told.now in
    let values = c.args.site.now.values in
    let nodes = c.deref-in-And.result.now in
    let are : nodes ≡ map (node_at shapes) places = c.deref-in-And.ensures.value ∙ c.in_ok-nodes.ensures in
    nodes_bound terms shapes c.requires.bound places nodes are c.requires.places

pub returns-in-And : goal.returns-in-And
returns-in-And g c =
    let terms = c.args.site.now.terms in
    let shapes = c.args.shapes.now in
    let places = c.args.places.now in
    let told = c.args.told.now in
    let values = c.args.site.now.values in
    let nodes = c.deref-in-And.result.now in
    let are : nodes ≡ map (node_at shapes) places = c.deref-in-And.ensures.value ∙ c.in_ok-nodes.ensures in
    let lists : List (List Bool) = map (λ a. a.items) c.deref-in-And-2.result.now in
    let looked : lists ≡ map (answers_of told) nodes = ap (map (λ a. a.items)) c.deref-in-And-2.ensures.value ∙ c.in_ok-answers.ensures ∙ ap (map (answers_of told)) (c.deref.ensures.value ∙ sym c.deref-in-And.ensures.value) in
    let f = term_at terms c.args.site.now.focus in
    let q = term_at terms c.args.site.now.parameter in
    let row = row_of components.And c.args.site.now.source f q in
    let members = map (term_at terms) nodes in
    let at : AreAt (named_shapes terms shapes) places members = subst (λ (ns : List ℕ). AreAt (named_shapes terms shapes) places (map (term_at terms) ns)) (sym are) (are_at terms shapes places c.requires.places) in
    let bound = nodes_bound terms shapes c.requires.bound places nodes are c.requires.places in
    let agreed = all_told shapes told values places nodes are lists looked c.requires.told in
    subst (λ (k : ShapesComponent). IfOk c.and.result (λ rows. (ids : List Ids) → WhereRight terms ids shapes values told (Contains places) (λ s n. Lists (λ r. (members : List Term) × AreAt (named_shapes terms shapes) places members × RowsOf (shapes_component k) (around terms ids s n values c.args.site.now.focus) (with_list members) q (row_of (shapes_component k) c.args.site.now.source f q) r) rows.items))) (sym c.in-And.is)
    (IfOk-weaker c.and.result
    (λ rows. ListsRows components.And (told_shapes terms nodes values lists) (with_list members) c.args.site.now.source f q rows.items)
    (λ rows. (ids : List Ids) → WhereRight terms ids shapes values told (Contains places) (λ s n. Lists (λ r. (members : List Term) × AreAt (named_shapes terms shapes) places members × RowsOf components.And (around terms ids s n values c.args.site.now.focus) (with_list members) q (row_of components.And c.args.site.now.source f q) r) rows.items))
    (λ rows h ids s n right. lists_same (RowsOf components.And (told_shapes terms nodes values lists) (with_list members) q row)
    (λ r. (ms : List Term) × AreAt (named_shapes terms shapes) places ms × RowsOf components.And (around terms ids s n values c.args.site.now.focus) (with_list ms) q row r) rows.items
    (λ r. let same = and_same terms c.recall.ensures.numbering values c.recall.ensures.nodes ids s n c.args.site.now.focus nodes bound lists agreed (all_right shapes told values places nodes are lists looked terms ids s n right) q row r in (
      (λ a. (members, at, same.0 a)),
      (λ b. same.1 (subst (λ (ms : List Term). RowsOf components.And (around terms ids s n values c.args.site.now.focus) (with_list ms) q row r) (one_list (named_shapes terms shapes) places b.0 members b.1 at) b.2)),
    )) h)
    c.and.ensures)

pub or-requires-clause-answers : goal.or-requires-clause-answers
or-requires-clause-answers g c =
    let terms = c.args.site.now.terms in
    let shapes = c.args.shapes.now in
    let places = c.args.places.now in
    let told = c.args.told.now in
    let values = c.args.site.now.values in
    let nodes = c.deref-in-Or.result.now in
    let are : nodes ≡ map (node_at shapes) places = c.deref-in-Or.ensures.value ∙ c.in_ok-nodes.ensures in
    let lists : List (List Bool) = map (λ a. a.items) c.deref-in-Or-2.result.now in
    let looked : lists ≡ map (answers_of told) nodes = ap (map (λ a. a.items)) c.deref-in-Or-2.ensures.value ∙ c.in_ok-answers.ensures ∙ ap (map (answers_of told)) (c.deref.ensures.value ∙ sym c.deref-in-Or.ensures.value) in
    all_told shapes told values places nodes are lists looked c.requires.told

pub or-requires-clause-members : goal.or-requires-clause-members
or-requires-clause-members g c =
    let terms = c.args.site.now.terms in
    let shapes = c.args.shapes.now in
    let places = c.args.places.now in
    let told = c.args.told.now in
    let values = c.args.site.now.values in
    let nodes = c.deref-in-Or.result.now in
    let are : nodes ≡ map (node_at shapes) places = c.deref-in-Or.ensures.value ∙ c.in_ok-nodes.ensures in
    nodes_bound terms shapes c.requires.bound places nodes are c.requires.places

pub returns-in-Or : goal.returns-in-Or
returns-in-Or g c =
    let terms = c.args.site.now.terms in
    let shapes = c.args.shapes.now in
    let places = c.args.places.now in
    let told = c.args.told.now in
    let values = c.args.site.now.values in
    let nodes = c.deref-in-Or.result.now in
    let are : nodes ≡ map (node_at shapes) places = c.deref-in-Or.ensures.value ∙ c.in_ok-nodes.ensures in
    let lists : List (List Bool) = map (λ a. a.items) c.deref-in-Or-2.result.now in
    let looked : lists ≡ map (answers_of told) nodes = ap (map (λ a. a.items)) c.deref-in-Or-2.ensures.value ∙ c.in_ok-answers.ensures ∙ ap (map (answers_of told)) (c.deref.ensures.value ∙ sym c.deref-in-Or.ensures.value) in
    let f = term_at terms c.args.site.now.focus in
    let q = term_at terms c.args.site.now.parameter in
    let row = row_of components.Or c.args.site.now.source f q in
    let members = map (term_at terms) nodes in
    let at : AreAt (named_shapes terms shapes) places members = subst (λ (ns : List ℕ). AreAt (named_shapes terms shapes) places (map (term_at terms) ns)) (sym are) (are_at terms shapes places c.requires.places) in
    let bound = nodes_bound terms shapes c.requires.bound places nodes are c.requires.places in
    let agreed = all_told shapes told values places nodes are lists looked c.requires.told in
    subst (λ (k : ShapesComponent). IfOk c.or.result (λ rows. (ids : List Ids) → WhereRight terms ids shapes values told (Contains places) (λ s n. Lists (λ r. (members : List Term) × AreAt (named_shapes terms shapes) places members × RowsOf (shapes_component k) (around terms ids s n values c.args.site.now.focus) (with_list members) q (row_of (shapes_component k) c.args.site.now.source f q) r) rows.items))) (sym c.in-Or.is)
    (IfOk-weaker c.or.result
    (λ rows. ListsRows components.Or (told_shapes terms nodes values lists) (with_list members) c.args.site.now.source f q rows.items)
    (λ rows. (ids : List Ids) → WhereRight terms ids shapes values told (Contains places) (λ s n. Lists (λ r. (members : List Term) × AreAt (named_shapes terms shapes) places members × RowsOf components.Or (around terms ids s n values c.args.site.now.focus) (with_list members) q (row_of components.Or c.args.site.now.source f q) r) rows.items))
    (λ rows h ids s n right. lists_same (RowsOf components.Or (told_shapes terms nodes values lists) (with_list members) q row)
    (λ r. (ms : List Term) × AreAt (named_shapes terms shapes) places ms × RowsOf components.Or (around terms ids s n values c.args.site.now.focus) (with_list ms) q row r) rows.items
    (λ r. let same = or_same terms c.recall.ensures.numbering values c.recall.ensures.nodes ids s n c.args.site.now.focus nodes bound lists agreed (all_right shapes told values places nodes are lists looked terms ids s n right) q row r in (
      (λ a. (members, at, same.0 a)),
      (λ b. same.1 (subst (λ (ms : List Term). RowsOf components.Or (around terms ids s n values c.args.site.now.focus) (with_list ms) q row r) (one_list (named_shapes terms shapes) places b.0 members b.1 at) b.2)),
    )) h)
    c.or.ensures)

pub xone-requires-clause-answers : goal.xone-requires-clause-answers
xone-requires-clause-answers g c =
    let terms = c.args.site.now.terms in
    let shapes = c.args.shapes.now in
    let places = c.args.places.now in
    let told = c.args.told.now in
    let values = c.args.site.now.values in
    let nodes = c.deref-in-Xone.result.now in
    let are : nodes ≡ map (node_at shapes) places = c.deref-in-Xone.ensures.value ∙ c.in_ok-nodes.ensures in
    let lists : List (List Bool) = map (λ a. a.items) c.deref-in-Xone-2.result.now in
    let looked : lists ≡ map (answers_of told) nodes = ap (map (λ a. a.items)) c.deref-in-Xone-2.ensures.value ∙ c.in_ok-answers.ensures ∙ ap (map (answers_of told)) (c.deref.ensures.value ∙ sym c.deref-in-Xone.ensures.value) in
    all_told shapes told values places nodes are lists looked c.requires.told

pub xone-requires-clause-members : goal.xone-requires-clause-members
xone-requires-clause-members g c =
    let terms = c.args.site.now.terms in
    let shapes = c.args.shapes.now in
    let places = c.args.places.now in
    let told = c.args.told.now in
    let values = c.args.site.now.values in
    let nodes = c.deref-in-Xone.result.now in
    let are : nodes ≡ map (node_at shapes) places = c.deref-in-Xone.ensures.value ∙ c.in_ok-nodes.ensures in
    nodes_bound terms shapes c.requires.bound places nodes are c.requires.places

pub returns : goal.returns
returns g c =
    let terms = c.args.site.now.terms in
    let shapes = c.args.shapes.now in
    let places = c.args.places.now in
    let told = c.args.told.now in
    let values = c.args.site.now.values in
    let nodes = c.deref-in-Xone.result.now in
    let are : nodes ≡ map (node_at shapes) places = c.deref-in-Xone.ensures.value ∙ c.in_ok-nodes.ensures in
    let lists : List (List Bool) = map (λ a. a.items) c.deref-in-Xone-2.result.now in
    let looked : lists ≡ map (answers_of told) nodes = ap (map (λ a. a.items)) c.deref-in-Xone-2.ensures.value ∙ c.in_ok-answers.ensures ∙ ap (map (answers_of told)) (c.deref.ensures.value ∙ sym c.deref-in-Xone.ensures.value) in
    let f = term_at terms c.args.site.now.focus in
    let q = term_at terms c.args.site.now.parameter in
    let row = row_of components.Xone c.args.site.now.source f q in
    let members = map (term_at terms) nodes in
    let at : AreAt (named_shapes terms shapes) places members = subst (λ (ns : List ℕ). AreAt (named_shapes terms shapes) places (map (term_at terms) ns)) (sym are) (are_at terms shapes places c.requires.places) in
    let bound = nodes_bound terms shapes c.requires.bound places nodes are c.requires.places in
    let agreed = all_told shapes told values places nodes are lists looked c.requires.told in
    subst (λ (k : ShapesComponent). IfOk c.xone.result (λ rows. (ids : List Ids) → WhereRight terms ids shapes values told (Contains places) (λ s n. Lists (λ r. (members : List Term) × AreAt (named_shapes terms shapes) places members × RowsOf (shapes_component k) (around terms ids s n values c.args.site.now.focus) (with_list members) q (row_of (shapes_component k) c.args.site.now.source f q) r) rows.items))) (sym c.in-Xone.is)
    (IfOk-weaker c.xone.result
    (λ rows. ListsRows components.Xone (told_shapes terms nodes values lists) (with_list members) c.args.site.now.source f q rows.items)
    (λ rows. (ids : List Ids) → WhereRight terms ids shapes values told (Contains places) (λ s n. Lists (λ r. (members : List Term) × AreAt (named_shapes terms shapes) places members × RowsOf components.Xone (around terms ids s n values c.args.site.now.focus) (with_list members) q (row_of components.Xone c.args.site.now.source f q) r) rows.items))
    (λ rows h ids s n right. lists_same (RowsOf components.Xone (told_shapes terms nodes values lists) (with_list members) q row)
    (λ r. (ms : List Term) × AreAt (named_shapes terms shapes) places ms × RowsOf components.Xone (around terms ids s n values c.args.site.now.focus) (with_list ms) q row r) rows.items
    (λ r. let same = xone_same terms c.recall.ensures.numbering values c.recall.ensures.nodes ids s n c.args.site.now.focus nodes bound lists agreed (all_right shapes told values places nodes are lists looked terms ids s n right) q row r in (
      (λ a. (members, at, same.0 a)),
      (λ b. same.1 (subst (λ (ms : List Term). RowsOf components.Xone (around terms ids s n values c.args.site.now.focus) (with_list ms) q row r) (one_list (named_shapes terms shapes) places b.0 members b.1 at) b.2)),
    )) h)
    c.xone.ensures)
