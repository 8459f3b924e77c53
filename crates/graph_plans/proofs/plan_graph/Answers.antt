use Rattle.std.proofs.Common.{List, subst, sym}
use Rattle.shape_ast.specs.Readings.{ReadShape}
use Rattle.shape_ast.specs.Standing.{StandFor}
use Rattle.plan_laws.proofs.WholePlans.{none_wide}
use Rattle.parallel_validate.proofs.Naming.{are_named}
use Rattle.graph_plans.proofs.plan_graph.Goals as goal

pub plan_shapes-requires-clause-named : goal.plan_shapes-requires-clause-named
plan_shapes-requires-clause-named g c = are_named (g.N.Names.terms c.args.names.now) c.args.shapes.now c.shapes.result.now.shapes c.shapes.ensures.shapes.within c.requires.shapes

pub plan_shapes-requires-clause-built : goal.plan_shapes-requires-clause-built
plan_shapes-requires-clause-built g c = c.shapes.ensures.shapes.built

pub plan_shapes-requires-clause-ascending : goal.plan_shapes-requires-clause-ascending
plan_shapes-requires-clause-ascending g c = c.shapes.ensures.shapes.stand.ascending

pub plan_shapes-requires-clause-few : goal.plan_shapes-requires-clause-few
plan_shapes-requires-clause-few g c =
    none_wide c.args.shapes.now c.shapes.result.now.shapes (record { well_formed = c.shapes.ensures.well_formed; compiled = c.shapes.ensures.shapes; once = c.shapes.ensures.once })

pub returns-clause-stand : goal.returns-clause-stand
returns-clause-stand g c = subst (λ (all : List ReadShape). StandFor all c.args.shapes.now) (sym c.in_ok-plan_shapes.ensures.same) c.shapes.ensures.shapes.stand
