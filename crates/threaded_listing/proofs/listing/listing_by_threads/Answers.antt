use Rattle.std.proofs.Common.{List, length, arith, subst, sym}
use Rattle.shape_ast.specs.Readings.{ReadShape}
use Rattle.shape_ast.specs.Standing.{StandFor}
use Rattle.shape_eval.specs.Settings.{Setting}
use Rattle.parallel_validate.specs.Counting.{StepsOfFirst}
use Rattle.parallel_validate.specs.Whole.{CollectsResults}
use Rattle.parallel_validate.proofs.Counting.{all_steps}
use Rattle.parallel_validate.proofs.Gathering.{all_shapes}
use Rattle.parallel_validate.proofs.Bounded.{well_acyclic, well_shallow}
use Rattle.parallel_validate.proofs.Naming.{are_named}
use Rattle.threaded_listing.proofs.listing.listing_by_threads.Goals as goal

pub bind-requires : goal.bind-requires
bind-requires g c = are_named (g.N.Names.terms c.args.names.now) c.args.shapes.now c.shapes.result.now.shapes c.shapes.ensures.shapes.within c.requires.shapes

pub new-evaluation-requires-clause-built : goal.new-evaluation-requires-clause-built
new-evaluation-requires-clause-built g c = c.in_ok-bound.ensures.built c.shapes.ensures.shapes.built

pub returns-clause-rows : goal.returns-clause-rows
returns-clause-rows g c =
    let terms = g.N.Names.terms c.args.names.now in
    let ids = g.R.Triples.triples c.args.graph.now in
    let shapes = c.in_ok-bound.bound.shapes in
    let s = c.args.shapes.now in
    let well = c.shapes.ensures.well_formed in
    let stand = subst (λ (all : List ReadShape). StandFor all s) (sym c.in_ok-bound.ensures.same) c.shapes.ensures.shapes.stand in
    let rows = c.in_ok-rows.rows.items in
    all_shapes terms ids shapes (length shapes) rows c.in_ok-sorted_once.field-0.items (omega arith)
    (subst (λ (e : Setting). CollectsResults e.terms e.ids e.shapes (length e.shapes) rows) c.new-evaluation.ensures c.in_ok-rows.ensures.rows) c.in_ok-sorted_once.ensures
    s stand (well_acyclic s well) (well_shallow s well)

pub returns-clause-steps : goal.returns-clause-steps
returns-clause-steps g c =
    let terms = g.N.Names.terms c.args.names.now in
    let ids = g.R.Triples.triples c.args.graph.now in
    let shapes = c.in_ok-bound.bound.shapes in
    let s = c.args.shapes.now in
    all_steps terms ids shapes (length shapes) c.args.steps.now c.all_rows.new.steps (omega arith)
    (subst (λ (e : Setting). StepsOfFirst e.terms e.ids e.shapes (length e.shapes) c.args.steps.now c.all_rows.new.steps) c.new-evaluation.ensures c.in_ok-rows.ensures.steps)
    s (subst (λ (all : List ReadShape). StandFor all s) (sym c.in_ok-bound.ensures.same) c.shapes.ensures.shapes.stand)
