use Rattle.std.proofs.Common.{ℕ, List, map, sym, subst}
use Rattle.std.specs.List.{All}
use Rattle.rdf_model.specs.Numbers.{graph_of, term_at}
use Rattle.shape_model.specs.declared.result_row.ResultRow.{ResultRow}
use Rattle.component_rows.specs.Listed.{Collects}
use Rattle.shape_ast.specs.declared.constraint.Constraint.{Constraint}
use Rattle.shape_ast.specs.Readings.{named_shapes, read_constraint, read_shape}
use Rattle.shape_ast.specs.Standing.{IsLinked}
use Rattle.shape_eval.specs.Around.{around}
use Rattle.shape_eval.specs.ShapeRows.{ConstraintRow, FromSome, OwnRow, PatternRow}
use Rattle.shape_eval.specs.Told.{AsksSome, WhereRight}
use Rattle.component_rows.specs.Nodes.{HasNode}
use Rattle.path_eval.specs.Naming.{AddsLooks}
use Rattle.shape_eval.specs.Looks.{ConstraintReads, ReadsOfSome}
use Rattle.shape_eval.proofs.Depths.{collects_both}
use Rattle.shape_eval.proofs.own_rows.own_rows.Goals as goal

pub returns-clause-rows : goal.returns-clause-rows
returns-clause-rows g c = λ s n right linked.
    let terms = c.args.evaluation.now.terms in
    let ids = c.args.evaluation.now.ids in
    let shapes = c.args.evaluation.now.shapes in
    let shape = c.args.shape.now in
    let named = named_shapes terms shapes in
    let read = read_shape (term_at terms) shape in
    let f = term_at terms c.args.focus in
    let t = around terms ids s n c.args.values.now c.args.focus in
    let rows = c.in_ok-rows.rows.items in
    let given = subst (λ (ks : List (Constraint ℕ)). WhereRight terms ids shapes c.args.values.now c.args.told.now (AsksSome shape ks) (λ s n. All (IsLinked named) (map (read_constraint (term_at terms)) ks)
    → Collects (FromSome (map (read_constraint (term_at terms)) ks) (ConstraintRow (around terms ids s n c.args.values.now c.args.focus) named read f)) rows)) c.as_slice-constraints.ensures c.in_ok-rows.ensures.rows in
    subst (λ (all : List ResultRow). Collects (OwnRow t named read f) all) (sym c.in_ok-append.ensures.items)
    (collects_both (FromSome read.constraints (ConstraintRow t named read f)) (PatternRow t named read f) rows c.in_ok-more.more.items (given s n right linked) (c.in_ok-more.ensures ids s n named))

pub returns-clause-looks : goal.returns-clause-looks
returns-clause-looks g c =
    let terms = c.args.evaluation.now.terms in
    subst (λ (ks : List (Constraint ℕ)). AddsLooks terms (ReadsOfSome (map (read_constraint (term_at terms)) ks) (ConstraintReads (graph_of terms c.args.evaluation.now.ids) (HasNode terms c.args.values.now) (term_at terms c.args.focus)))
    c.args.footprint.now c.constraints_rows.new.footprint) c.as_slice-constraints.ensures c.in_ok-rows.ensures.looks

pub returns-clause-kept : goal.returns-clause-kept
returns-clause-kept g c = c.constraints_rows.ensures.kept

pub returns-in_err-rows-clause-kept : goal.returns-in_err-rows-clause-kept
returns-in_err-rows-clause-kept g c = c.constraints_rows.ensures.kept

pub returns-in_err-more-clause-kept : goal.returns-in_err-more-clause-kept
returns-in_err-more-clause-kept g c = c.constraints_rows.ensures.kept

pub returns-in_err-append-clause-kept : goal.returns-in_err-append-clause-kept
returns-in_err-append-clause-kept g c = c.constraints_rows.ensures.kept
