use Rattle.std.proofs.Common.{ℕ, List, map, get_or, sym, subst}
use Rattle.std.proofs.lemmas.List.Elements.{All-contains, Contains-get_or}
use Rattle.rdf_model.specs.Numbers.{graph_of, term_at}
use Rattle.shape_model.specs.declared.result_row.ResultRow.{ResultRow}
use Rattle.component_rows.specs.Listed.{Collects}
use Rattle.component_rows.proofs.Collecting.{loop_end, loop_more}
use Rattle.shape_ast.specs.declared.constraint.Constraint.{Constraint}
use Rattle.shape_ast.specs.Readings.{named_shapes, read_constraint, read_shape}
use Rattle.shape_ast.specs.Standing.{IsLinked}
use Rattle.shape_eval.specs.Around.{around}
use Rattle.shape_eval.specs.ShapeRows.{ConstraintRow}
use Rattle.shape_eval.specs.Told.{Asks, HaveAnswers, WhereRight}
use Rattle.component_rows.proofs.Collecting.{mapped_to}
use Rattle.rdf_model.specs.declared.term.Term.{Term}
use Rattle.rdf_model.specs.declared.triple.Triple.{Triple}
use Rattle.rdf_model.specs.declared.look.Look.{Look}
use Rattle.component_rows.specs.Nodes.{HasNode}
use Rattle.path_eval.specs.Naming.{AddsLooks}
use Rattle.shape_eval.specs.Looks.{ConstraintReads}
use Rattle.shape_eval.proofs.Looking.{reads_all, reads_mapped, reads_more}
use Rattle.shape_eval.proofs.own_rows.constraints_rows.Goals as goal

pub constraint_rows-requires-clause-told : goal.constraint_rows-requires-clause-told
constraint_rows-requires-clause-told g c =
    let constraints = c.args.constraints.now in
    let i = c.loop-constraint.constraint-index in
    let d = c.constraint-item.result in
    subst (λ (k : Constraint ℕ). HaveAnswers c.args.evaluation.now.shapes c.args.values.now c.args.told.now (Asks c.args.shape.now k)) (sym c.constraint-item.is)
    (λ p asks. c.requires.told p (get_or constraints i d, Contains-get_or constraints i d c.loop-constraint-test.true, asks))

pub loop-constraint-preserved : goal.loop-constraint-preserved
loop-constraint-preserved g c =
    let terms = c.args.evaluation.now.terms in
    let ids = c.args.evaluation.now.ids in
    let constraints = c.args.constraints.now in
    let i = c.loop-constraint.constraint-index in
    let d = c.constraint-item.result in
    let named = named_shapes terms c.args.evaluation.now.shapes in
    let Gives : List Triple → ℕ → Constraint ℕ → ResultRow → Type 0 = λ s n k r. ConstraintRow (around terms ids s n c.args.values.now c.args.focus) named (read_shape (term_at terms) c.args.shape.now) (term_at terms c.args.focus) (read_constraint (term_at terms) k) r in
    let there = Contains-get_or constraints i d c.loop-constraint-test.true in
    let given = subst (λ (k : Constraint ℕ). WhereRight terms ids c.args.evaluation.now.shapes c.args.values.now c.args.told.now (Asks c.args.shape.now k) (λ s n. IsLinked named (read_constraint (term_at terms) k)
    → Collects (ConstraintRow (around terms ids s n c.args.values.now c.args.focus) named (read_shape (term_at terms) c.args.shape.now) (term_at terms c.args.focus) (read_constraint (term_at terms) k)) c.in_ok-more.more.items)) c.constraint-item.is c.in_ok-more.ensures.rows in
    let Reads : Constraint ℕ → Look Term → Type 0 = λ k. ConstraintReads (graph_of terms ids) (HasNode terms c.args.values.now) (term_at terms c.args.focus) (read_constraint (term_at terms) k) in
    let old = c.args.footprint.now in
    let mid = c.loop-constraint.footprint in
    let new = c.constraint_rows.new.footprint in
    let looked = subst (λ (k : Constraint ℕ). AddsLooks terms (Reads k) mid new) c.constraint-item.is c.in_ok-more.ensures.looks in
    record {
      rows = λ s n right linked. loop_more (Gives s n) constraints i d c.loop-constraint.rows.items c.append.new.self.items c.loop-constraint-test.true (c.loop-constraint.invariant.rows s n right linked) (
        c.in_ok-more.more.items,
        c.in_ok-append.ensures.items,
        given s n (λ p asks. right p (get_or constraints i d, there, asks))
            (All-contains (IsLinked named) (map (read_constraint (term_at terms)) constraints) (read_constraint (term_at terms) (get_or constraints i d)) linked (mapped_to (read_constraint (term_at terms)) constraints (get_or constraints i d) there)),
      );
      looks = reads_more terms Reads constraints i d c.loop-constraint-test.true old mid new c.loop-constraint.invariant.looks looked;
      kept = λ look h. c.constraint_rows.ensures.kept look (c.loop-constraint.invariant.kept look h);
    }

pub returns-clause-rows : goal.returns-clause-rows
returns-clause-rows g c = λ s n right linked.
    let terms = c.args.evaluation.now.terms in
    let ids = c.args.evaluation.now.ids in
    loop_end (read_constraint (term_at terms)) (ConstraintRow (around terms ids s n c.args.values.now c.args.focus) (named_shapes terms c.args.evaluation.now.shapes) (read_shape (term_at terms) c.args.shape.now) (term_at terms c.args.focus))
    c.args.constraints.now c.loop-constraint.constraint-index c.loop-constraint.rows.items c.loop-constraint-test.false (c.loop-constraint.invariant.rows s n right linked)

pub returns-clause-looks : goal.returns-clause-looks
returns-clause-looks g c =
    let terms = c.args.evaluation.now.terms in
    let constraints = c.args.constraints.now in
    let Reads = ConstraintReads (graph_of terms c.args.evaluation.now.ids) (HasNode terms c.args.values.now) (term_at terms c.args.focus) in
    reads_mapped terms (read_constraint (term_at terms)) constraints Reads c.args.footprint.now c.loop-constraint.footprint
    (reads_all terms (λ (k : Constraint ℕ). Reads (read_constraint (term_at terms) k)) constraints c.loop-constraint.constraint-index c.loop-constraint-test.false c.args.footprint.now c.loop-constraint.footprint c.loop-constraint.invariant.looks)

pub returns-clause-kept : goal.returns-clause-kept
returns-clause-kept g c = c.loop-constraint.invariant.kept

pub returns-in_err-more-clause-kept : goal.returns-in_err-more-clause-kept
returns-in_err-more-clause-kept g c = λ look h. c.constraint_rows.ensures.kept look (c.loop-constraint.invariant.kept look h)

pub returns-in_err-append-clause-kept : goal.returns-in_err-append-clause-kept
returns-in_err-append-clause-kept g c = λ look h. c.constraint_rows.ensures.kept look (c.loop-constraint.invariant.kept look h)
