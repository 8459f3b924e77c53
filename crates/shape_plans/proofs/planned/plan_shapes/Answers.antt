use Rattle.std.proofs.Common.{◌≤◌, ◌^◌, length, arith}
use Rattle.shape_plans.proofs.Counted.{no_more_shapes}
use Rattle.shape_plans.proofs.planned.plan_shapes.Goals as goal

pub number_plans-requires-clause-small : goal.number_plans-requires-clause-small
number_plans-requires-clause-small g c =
    let few = no_more_shapes (g.N.Names.terms c.args.names.now) c.args.shapes.now.shapes c.in_ok-bound.bound.shapes c.in_ok-bound.ensures.bound c.in_ok-bound.ensures.same c.requires.ascending in
    omega (arith, few, c.recall_few_names.ensures)
