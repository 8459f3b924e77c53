use Rattle.std.proofs.Common.{List, subst, sym}
use Rattle.shape_ast.specs.Readings.{ReadShape}
use Rattle.shape_ast.specs.Standing.{StandFor}
use Rattle.parallel_validate.proofs.Bounded.{well_acyclic, well_shallow}
use Rattle.parallel_validate.proofs.Naming.{are_named}
use Rattle.parallel_validate.proofs.validation.listing_over.Goals as goal

pub bind-requires : goal.bind-requires
bind-requires g c = are_named (g.N.Names.terms c.args.names.now) c.args.shapes.now c.shapes.result.now.shapes c.shapes.ensures.shapes.within c.requires.shapes

pub whole-requires-clause-built : goal.whole-requires-clause-built
whole-requires-clause-built g c = c.in_ok-bound.ensures.built c.shapes.ensures.shapes.built

pub returns-clause-rows : goal.returns-clause-rows
returns-clause-rows g c =
    let s = c.args.shapes.now in
    let well = c.shapes.ensures.well_formed in
    let stand = subst (λ (all : List ReadShape). StandFor all s) (sym c.in_ok-bound.ensures.same) c.shapes.ensures.shapes.stand in
    c.in_ok-whole.ensures.rows s stand (well_acyclic s well) (well_shallow s well)

pub returns-clause-steps : goal.returns-clause-steps
returns-clause-steps g c =
    let s = c.args.shapes.now in
    c.in_ok-whole.ensures.steps s (subst (λ (all : List ReadShape). StandFor all s) (sym c.in_ok-bound.ensures.same) c.shapes.ensures.shapes.stand)
