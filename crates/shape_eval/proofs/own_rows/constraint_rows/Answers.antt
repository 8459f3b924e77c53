use Rattle.std.proofs.Common.{◌≡◌, ◌∙◌, ◌<◌, ℕ, Bool, List, IfOk, OnOk, length, map, ap, sym, subst}
use Rattle.std.specs.List.{All, Contains}
use Rattle.std.proofs.lemmas.Result.{IfOk-weaker}
use Rattle.rdf_model.specs.declared.term.Term.{Term}
use Rattle.rdf_model.specs.declared.ids.Ids.{Ids}
use Rattle.rdf_model.specs.declared.look.Look.{Look}
use Rattle.rdf_model.specs.Numbers.{graph_of, term_at}
use Rattle.shape_model.specs.declared.result_row.ResultRow.{ResultRow}
use Rattle.shape_model.specs.Components.{RowsOf, row_of}
use Rattle.component_rows.specs.Listed.{Collects, Lists, untold, with_list}
use Rattle.component_rows.specs.Sites.{ListsAt, Spot, at_values, site_row, spot}
use Rattle.component_rows.specs.Nodes.{HasNode}
use Rattle.path_eval.specs.Naming.{AddsLooks}
use Rattle.path_eval.proofs.Footprints.{looks_none}
use Rattle.shape_ast.specs.declared.component.ListComponent.{ListComponent}
use Rattle.shape_ast.specs.declared.component.ShapeComponent.{ShapeComponent}
use Rattle.shape_ast.specs.declared.component.ShapesComponent.{ShapesComponent}
use Rattle.shape_ast.specs.declared.component.TermComponent.{TermComponent}
use Rattle.shape_ast.specs.declared.constraint.Constraint.{Constraint}
use Rattle.shape_ast.specs.declared.constraint.Constraint.TheVariants.{ByTerm, ByList, ByShape, ByShapes}
use Rattle.shape_ast.specs.declared.shape.Shape.{Shape}
use Rattle.shape_ast.specs.Components.{list_component, shape_component, shapes_component, term_component}
use Rattle.shape_ast.specs.Readings.{AreBound, HoldsOfConstraint, HoldsOfShape, named_shapes, parameter, read_constraint, read_shape}
use Rattle.shape_ast.specs.Standing.{AreAt, IsAt, IsLinked, shape_reading}
use Rattle.shape_eval.specs.declared.told.Told.{Told}
use Rattle.shape_eval.specs.Around.{around}
use Rattle.shape_eval.specs.Looks.{AreInstanceAnswers, ComponentReads, ConstraintReads}
use Rattle.shape_eval.specs.Settings.{Setting}
use Rattle.shape_eval.specs.ShapeRows.{ConstraintRow}
use Rattle.shape_eval.specs.Told.{Asks, CountAsks, HaveAnswers, WhereRight}
use Rattle.shape_eval.proofs.Looking.{always}
use Rattle.shape_eval.proofs.Owning.{list_around, parameter_holds}
use Rattle.shape_eval.proofs.Reading.{no_list_reads, no_shape_reads, no_shapes_reads}
use Rattle.shape_eval.proofs.own_rows.constraint_rows.Goals as goal

-- the rows are those of the constraint, and each arm gives those of its kind at a spot
module _ (e : Setting) (shape : Shape ℕ) (told : List Told) where
  abbrev Given : ℕ → List ℕ → Constraint ℕ → List ResultRow → Type 0
  Given f values k rows =
      WhereRight e.terms e.ids e.shapes values told (Asks shape k) (λ s n. IsLinked (named_shapes e.terms e.shapes) (read_constraint (term_at e.terms) k)
      → Collects (ConstraintRow (around e.terms e.ids s n values f) (named_shapes e.terms e.shapes) (read_shape (term_at e.terms) shape) (term_at e.terms f) (read_constraint (term_at e.terms) k)) rows)

  abbrev GivenByTerm : TermComponent → Spot → List ResultRow → Type 0
  GivenByTerm component x rows =
      WhereRight x.terms e.ids e.shapes x.values told (CountAsks shape component)
      (λ s n. ListsAt (term_component component) (around x.terms e.ids s n x.values x.focus) (shape_reading (named_shapes x.terms e.shapes) (read_shape (term_at x.terms) shape)) x rows)

  abbrev GivenByShape : ShapeComponent → ℕ → List (Shape ℕ) → Spot → List ResultRow → Type 0
  GivenByShape component place shapes x rows =
      (is : List Ids) → WhereRight x.terms is shapes x.values told (λ n. place ≡ n)
      (λ s n. IsAt (named_shapes x.terms shapes) place (term_at x.terms x.parameter) → ListsAt (shape_component component) (around x.terms is s n x.values x.focus) untold x rows)

  abbrev GivenByShapes : ShapesComponent → List ℕ → List (Shape ℕ) → Spot → List ResultRow → Type 0
  GivenByShapes component places shapes x rows =
      (is : List Ids) → WhereRight x.terms is shapes x.values told (Contains places)
      (λ s n. Lists (λ r. (members : List Term) × AreAt (named_shapes x.terms shapes) places members
      × RowsOf (shapes_component component) (around x.terms is s n x.values x.focus) (with_list members) (term_at x.terms x.parameter) (site_row (shapes_component component) x) r) rows)

abbrev GivenByList : ListComponent → List ℕ → Spot → List ResultRow → Type 0
GivenByList component members x rows = ListsAt (list_component component) (at_values x) (with_list (map (term_at x.terms) members)) x rows

pub site-site-requires-clause-parameter : goal.site-site-requires-clause-parameter
site-site-requires-clause-parameter g c =
    subst (λ (n : ℕ). n < length c.args.evaluation.now.terms) (sym c.parameter_of.ensures)
    (parameter_holds (λ n. n < length c.args.evaluation.now.terms) (length c.args.evaluation.now.shapes) c.args.constraint.now c.requires.constraint)

pub component_looks-requires : goal.component_looks-requires
component_looks-requires g c = ap (λ (x : Spot). x.terms) c.site-site.ensures

pub term_rows-requires-clause-same : goal.term_rows-requires-clause-same
term_rows-requires-clause-same g c = ap (λ (x : Spot). x.terms) c.site-site.ensures

pub term_rows-requires-clause-shape : goal.term_rows-requires-clause-shape
term_rows-requires-clause-shape g c = subst (λ (x : Spot). HoldsOfShape (λ n. n < length x.terms) (length c.args.evaluation.now.shapes) c.args.shape.now) (sym c.site-site.ensures) c.requires.shape

pub term_rows-requires-clause-told : goal.term_rows-requires-clause-told
term_rows-requires-clause-told g c = subst (λ (x : Spot). HaveAnswers c.args.evaluation.now.shapes x.values c.args.told.now (CountAsks c.args.shape.now c.in-ByTerm.component)) (sym c.site-site.ensures)
    (subst (λ (k : Constraint ℕ). HaveAnswers c.args.evaluation.now.shapes c.args.values.now c.args.told.now (Asks c.args.shape.now k)) c.in-ByTerm.is c.requires.told)

pub term_rows-requires-clause-instances : goal.term_rows-requires-clause-instances
term_rows-requires-clause-instances g c =
    let x = c.site-site.result in
    subst (λ (answers : List Bool). AreInstanceAnswers (graph_of x.terms c.args.evaluation.now.ids) (term_component c.in-ByTerm.component) (term_at x.terms x.parameter) x.terms x.values answers)
    (sym c.deref.ensures.value) c.in_ok-instances-in-ByTerm.ensures.instances

pub returns-in_ok-instances-in-ByTerm-clause-rows : goal.returns-in_ok-instances-in-ByTerm-clause-rows
returns-in_ok-instances-in-ByTerm-clause-rows g c =
    let e = c.args.evaluation.now in
    let values = c.args.values.now in
    let component = c.in-ByTerm.component in
    let q = c.in-ByTerm.parameter in
    let Here = Given e c.args.shape.now c.args.told.now c.args.focus values in
    let There = GivenByTerm e c.args.shape.now c.args.told.now component in
    let source = term_at e.terms c.args.shape.now.node in
    let placed = c.site-site.ensures ∙ ap (λ (p : ℕ). spot e.terms source p c.args.focus values) (c.parameter_of.ensures ∙ ap parameter c.in-ByTerm.is) in
    subst (λ (k : Constraint ℕ). IfOk c.term_rows.result (λ rows. Here k rows.items)) (sym c.in-ByTerm.is)
    (IfOk-weaker c.term_rows.result (λ rows. There (spot e.terms source q c.args.focus values) rows.items) (λ rows. Here (ByTerm component q) rows.items) (λ rows h s n right linked. (h s n right).members)
    (subst (λ (x : Spot). IfOk c.term_rows.result (λ rows. There x rows.items)) placed c.term_rows.ensures))

pub list_rows-requires : goal.list_rows-requires
list_rows-requires g c =
    let terms = c.args.evaluation.now.terms in
    subst (λ (x : Spot). All (λ n. n < length x.terms) c.in-ByList.members) (sym c.site-site.ensures)
    ((subst (λ (k : Constraint ℕ). HoldsOfConstraint (λ n. n < length terms) (length c.args.evaluation.now.shapes) k) c.in-ByList.is c.requires.constraint).1)

pub returns-in-ByList-clause-rows : goal.returns-in-ByList-clause-rows
returns-in-ByList-clause-rows g c =
    let e = c.args.evaluation.now in
    let values = c.args.values.now in
    let component = c.in-ByList.component in
    let q = c.in-ByList.parameter in
    let Here = Given e c.args.shape.now c.args.told.now c.args.focus values in
    let source = term_at e.terms c.args.shape.now.node in
    let placed = c.site-site.ensures ∙ ap (λ (p : ℕ). spot e.terms source p c.args.focus values) (c.parameter_of.ensures ∙ ap parameter c.in-ByList.is) in
    let row = row_of (list_component component) source (term_at e.terms c.args.focus) (term_at e.terms q) in
    subst (λ (k : Constraint ℕ). IfOk c.list_rows.result (λ rows. Here k rows.items)) (sym c.in-ByList.is)
    (IfOk-weaker c.list_rows.result (λ rows. GivenByList component c.in-ByList.members (spot e.terms source q c.args.focus values) rows.items) (λ rows. Here (ByList component q c.in-ByList.members) rows.items)
    (λ rows h s n right linked. (list_around e.terms e.ids s n values c.args.focus component (map (term_at e.terms) c.in-ByList.members) (term_at e.terms q) row rows.items h).members)
    (subst (λ (x : Spot). IfOk c.list_rows.result (λ rows. GivenByList component c.in-ByList.members x rows.items)) placed c.list_rows.ensures))

pub shape_rows-requires-clause-told : goal.shape_rows-requires-clause-told
shape_rows-requires-clause-told g c =
    subst (λ (p : Spot × List (Shape ℕ)). HaveAnswers p.1 p.0.values c.args.told.now (λ n. c.in-ByShape.place ≡ n)) (λ i. (sym c.site-site.ensures i, sym c.shapes-shapes.ensures i))
    (subst (λ (k : Constraint ℕ). HaveAnswers c.args.evaluation.now.shapes c.args.values.now c.args.told.now (Asks c.args.shape.now k)) c.in-ByShape.is c.requires.told)

pub shape_rows-requires-clause-place : goal.shape_rows-requires-clause-place
shape_rows-requires-clause-place g c =
    subst (λ (xs : List (Shape ℕ)). c.in-ByShape.place < length xs) (sym c.shapes-shapes.ensures)
    ((subst (λ (k : Constraint ℕ). HoldsOfConstraint (λ n. n < length c.args.evaluation.now.terms) (length c.args.evaluation.now.shapes) k) c.in-ByShape.is c.requires.constraint).1)

pub returns-in-ByShape-clause-rows : goal.returns-in-ByShape-clause-rows
returns-in-ByShape-clause-rows g c =
    let e = c.args.evaluation.now in
    let values = c.args.values.now in
    let component = c.in-ByShape.component in
    let q = c.in-ByShape.parameter in
    let Here = Given e c.args.shape.now c.args.told.now c.args.focus values in
    let There = GivenByShape e c.args.shape.now c.args.told.now component c.in-ByShape.place in
    let source = term_at e.terms c.args.shape.now.node in
    let placed = c.site-site.ensures ∙ ap (λ (p : ℕ). spot e.terms source p c.args.focus values) (c.parameter_of.ensures ∙ ap parameter c.in-ByShape.is) in
    subst (λ (k : Constraint ℕ). IfOk c.shape_rows.result (λ rows. Here k rows.items)) (sym c.in-ByShape.is)
    (IfOk-weaker c.shape_rows.result (λ rows. There e.shapes (spot e.terms source q c.args.focus values) rows.items) (λ rows. Here (ByShape component q c.in-ByShape.place) rows.items) (λ rows h s n right linked. (h e.ids s n right linked).members)
    (subst (λ (p : Spot × List (Shape ℕ)). IfOk c.shape_rows.result (λ rows. There p.1 p.0 rows.items)) (λ i. (placed i, c.shapes-shapes.ensures i)) c.shape_rows.ensures))

pub shapes_rows-requires-clause-bound : goal.shapes_rows-requires-clause-bound
shapes_rows-requires-clause-bound g c = subst (λ (p : Spot × List (Shape ℕ)). AreBound p.0.terms p.1) (λ i. (sym c.site-site.ensures i, sym c.shapes-shapes.ensures i)) c.recall.ensures.bound

pub shapes_rows-requires-clause-told : goal.shapes_rows-requires-clause-told
shapes_rows-requires-clause-told g c =
    subst (λ (p : Spot × List (Shape ℕ) × List ℕ). HaveAnswers p.1 p.0.values c.args.told.now (Contains p.2)) (λ i. (sym c.site-site.ensures i, sym c.shapes-shapes.ensures i, sym c.as_slice.ensures i))
    (subst (λ (k : Constraint ℕ). HaveAnswers c.args.evaluation.now.shapes c.args.values.now c.args.told.now (Asks c.args.shape.now k)) c.in-ByShapes.is c.requires.told)

pub shapes_rows-requires-clause-places : goal.shapes_rows-requires-clause-places
shapes_rows-requires-clause-places g c =
    subst (λ (p : List (Shape ℕ) × List ℕ). All (λ n. n < length p.0) p.1) (λ i. (sym c.shapes-shapes.ensures i, sym c.as_slice.ensures i))
    ((subst (λ (k : Constraint ℕ). HoldsOfConstraint (λ n. n < length c.args.evaluation.now.terms) (length c.args.evaluation.now.shapes) k) c.in-ByShapes.is c.requires.constraint).1)

pub returns-in-ByShapes-clause-rows : goal.returns-in-ByShapes-clause-rows
returns-in-ByShapes-clause-rows g c =
    let e = c.args.evaluation.now in
    let values = c.args.values.now in
    let component = c.in-ByShapes.component in
    let q = c.in-ByShapes.parameter in
    let Here = Given e c.args.shape.now c.args.told.now c.args.focus values in
    let There = GivenByShapes e c.args.shape.now c.args.told.now component in
    let source = term_at e.terms c.args.shape.now.node in
    let placed = c.site-site.ensures ∙ ap (λ (p : ℕ). spot e.terms source p c.args.focus values) (c.parameter_of.ensures ∙ ap parameter c.in-ByShapes.is) in
    subst (λ (k : Constraint ℕ). IfOk c.shapes_rows.result (λ rows. Here k rows.items)) (sym c.in-ByShapes.is)
    (IfOk-weaker c.shapes_rows.result (λ rows. There c.in-ByShapes.places e.shapes (spot e.terms source q c.args.focus values) rows.items) (λ rows. Here (ByShapes component q c.in-ByShapes.places) rows.items) (λ rows h s n right linked. (h e.ids s n right).members)
    (subst (λ (p : Spot × List (Shape ℕ) × List ℕ). IfOk c.shapes_rows.result (λ rows. There p.2 p.1 p.0 rows.items)) (λ i. (placed i, c.shapes-shapes.ensures i, c.as_slice.ensures i)) c.shapes_rows.ensures))

-- the looks: only a component at a value of its parameter makes some by itself
abbrev Looked : Setting → ℕ → List ℕ → Constraint ℕ → List (Look ℕ) → List (Look ℕ) → Type 0
Looked e f values k old new = AddsLooks e.terms (ConstraintReads (graph_of e.terms e.ids) (HasNode e.terms values) (term_at e.terms f) (read_constraint (term_at e.terms) k)) old new

pub returns-in_ok-instances-in-ByTerm-clause-looks : goal.returns-in_ok-instances-in-ByTerm-clause-looks
returns-in_ok-instances-in-ByTerm-clause-looks g c =
    let e = c.args.evaluation.now in
    let component = c.in-ByTerm.component in
    let old = c.args.footprint.now in
    let new = c.component_looks.new.footprint in
    let placed = c.site-site.ensures ∙ ap (λ (p : ℕ). spot e.terms (term_at e.terms c.args.shape.now.node) p c.args.focus c.args.values.now) (c.parameter_of.ensures ∙ ap parameter c.in-ByTerm.is) in
    subst (λ (k : Constraint ℕ). OnOk c.term_rows.result (Looked e c.args.focus c.args.values.now k old new)) (sym c.in-ByTerm.is)
    (always c.term_rows.result (λ rows. Looked e c.args.focus c.args.values.now (ByTerm component c.in-ByTerm.parameter) old new)
    (λ rows. subst (λ (x : Spot). AddsLooks x.terms (ComponentReads (graph_of x.terms e.ids) (HasNode x.terms x.values) (term_at x.terms x.focus) (term_component component) (term_at x.terms x.parameter)) old new) placed
    c.in_ok-instances-in-ByTerm.ensures.looks))

pub returns-in-ByList-clause-looks : goal.returns-in-ByList-clause-looks
returns-in-ByList-clause-looks g c =
    let e = c.args.evaluation.now in
    let Here = Looked e c.args.focus c.args.values.now in
    let old = c.args.footprint.now in
    subst (λ (k : Constraint ℕ). OnOk c.list_rows.result (Here k old old)) (sym c.in-ByList.is)
    (always c.list_rows.result (λ rows. Here (ByList c.in-ByList.component c.in-ByList.parameter c.in-ByList.members) old old) (λ rows. looks_none e.terms
    (ConstraintReads (graph_of e.terms e.ids) (HasNode e.terms c.args.values.now) (term_at e.terms c.args.focus) (read_constraint (term_at e.terms) (ByList c.in-ByList.component c.in-ByList.parameter c.in-ByList.members)))
    (no_list_reads (graph_of e.terms e.ids) (HasNode e.terms c.args.values.now) (term_at e.terms c.args.focus) c.in-ByList.component (term_at e.terms c.in-ByList.parameter)) old))

pub returns-in-ByShape-clause-looks : goal.returns-in-ByShape-clause-looks
returns-in-ByShape-clause-looks g c =
    let e = c.args.evaluation.now in
    let Here = Looked e c.args.focus c.args.values.now in
    let old = c.args.footprint.now in
    subst (λ (k : Constraint ℕ). OnOk c.shape_rows.result (Here k old old)) (sym c.in-ByShape.is)
    (always c.shape_rows.result (λ rows. Here (ByShape c.in-ByShape.component c.in-ByShape.parameter c.in-ByShape.place) old old) (λ rows. looks_none e.terms
    (ConstraintReads (graph_of e.terms e.ids) (HasNode e.terms c.args.values.now) (term_at e.terms c.args.focus) (read_constraint (term_at e.terms) (ByShape c.in-ByShape.component c.in-ByShape.parameter c.in-ByShape.place)))
    (no_shape_reads (graph_of e.terms e.ids) (HasNode e.terms c.args.values.now) (term_at e.terms c.args.focus) c.in-ByShape.component (term_at e.terms c.in-ByShape.parameter)) old))

pub returns-in-ByShapes-clause-looks : goal.returns-in-ByShapes-clause-looks
returns-in-ByShapes-clause-looks g c =
    let e = c.args.evaluation.now in
    let Here = Looked e c.args.focus c.args.values.now in
    let old = c.args.footprint.now in
    subst (λ (k : Constraint ℕ). OnOk c.shapes_rows.result (Here k old old)) (sym c.in-ByShapes.is)
    (always c.shapes_rows.result (λ rows. Here (ByShapes c.in-ByShapes.component c.in-ByShapes.parameter c.in-ByShapes.places) old old) (λ rows. looks_none e.terms
    (ConstraintReads (graph_of e.terms e.ids) (HasNode e.terms c.args.values.now) (term_at e.terms c.args.focus) (read_constraint (term_at e.terms) (ByShapes c.in-ByShapes.component c.in-ByShapes.parameter c.in-ByShapes.places)))
    (no_shapes_reads (graph_of e.terms e.ids) (HasNode e.terms c.args.values.now) (term_at e.terms c.args.focus) c.in-ByShapes.component (term_at e.terms c.in-ByShapes.parameter)) old))

pub returns-in-ByList-clause-kept : goal.returns-in-ByList-clause-kept
returns-in-ByList-clause-kept g c = λ look h. h

pub returns-in-ByShape-clause-kept : goal.returns-in-ByShape-clause-kept
returns-in-ByShape-clause-kept g c = λ look h. h

pub returns-in-ByShapes-clause-kept : goal.returns-in-ByShapes-clause-kept
returns-in-ByShapes-clause-kept g c = λ look h. h

pub returns-in_ok-instances-in-ByTerm-clause-kept : goal.returns-in_ok-instances-in-ByTerm-clause-kept
returns-in_ok-instances-in-ByTerm-clause-kept g c = c.component_looks.ensures.kept

pub returns-in_err-instances-in-ByTerm-clause-kept : goal.returns-in_err-instances-in-ByTerm-clause-kept
returns-in_err-instances-in-ByTerm-clause-kept g c = c.component_looks.ensures.kept
