use Rattle.std.proofs.Common.{length, arith, subst}
use Rattle.shape_eval.specs.Settings.{Setting}
use Rattle.parallel_validate.specs.Counting.{StepsOfFirst}
use Rattle.parallel_validate.proofs.Counting.{all_steps}
use Rattle.kept_validation.specs.Keeping.{KeepsOfFirst}
use Rattle.kept_validation.proofs.Keeping.{all_shapes}
use Rattle.kept_validation.proofs.whole.whole_kept.Goals as goal

pub returns-clause-rows : goal.returns-clause-rows
returns-clause-rows g c =
    let terms = g.N.Names.terms c.args.names.now in
    let ids = g.R.Triples.triples c.args.graph.now in
    let shapes = c.args.bound.now.shapes in
    let rows = c.in_ok-rows.rows.items in
    all_shapes terms ids shapes (length shapes) rows c.in_ok-from_rows.field-0 (omega arith)
    (subst (λ (e : Setting). KeepsOfFirst e.terms e.ids e.shapes (length e.shapes) rows) c.new-evaluation.ensures c.in_ok-rows.ensures.rows) c.in_ok-from_rows.ensures

pub returns-clause-steps : goal.returns-clause-steps
returns-clause-steps g c =
    let terms = g.N.Names.terms c.args.names.now in
    let ids = g.R.Triples.triples c.args.graph.now in
    let shapes = c.args.bound.now.shapes in
    all_steps terms ids shapes (length shapes) c.args.steps.now c.all_rows.new.steps (omega arith)
    (subst (λ (e : Setting). StepsOfFirst e.terms e.ids e.shapes (length e.shapes) c.args.steps.now c.all_rows.new.steps) c.new-evaluation.ensures c.in_ok-rows.ensures.steps)

pub returns-clause-counted : goal.returns-clause-counted
returns-clause-counted g c = c.all_rows.ensures.counted
