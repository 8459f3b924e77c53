use Rattle.shape_ast.specs.Readings.{read_shapes}
use Rattle.shape_plans.proofs.Standing.{next_plan, none_here, pushed_plans, true_or_false}
use Rattle.shape_plans.proofs.plans.push_plan.Goals as goal

pub returns-then-not-declares_target-clause-first : goal.returns-then-not-declares_target-clause-first
returns-then-not-declares_target-clause-first g c = λ before.
    none_here (g.N.Names.terms c.args.names.now) (read_shapes c.args.shapes.now.shapes) c.args.place c.args.plans.now.items before
    (λ d. true_or_false c.declares_target.result (c.declares_target.ensures.1 d) c.if-not-declares_target.true)

pub returns-clause-first : goal.returns-clause-first
returns-clause-first g c = λ before.
    next_plan (g.N.Names.terms c.args.names.now) (read_shapes c.args.shapes.now.shapes) c.args.place c.args.plans.now.items c.push.new.self.items c.in_ok-number_plan.field-0 c.in_ok-push.ensures.items before
    (c.declares_target.ensures.0 c.if-not-declares_target.false) c.in_ok-number_plan.ensures.place c.in_ok-number_plan.ensures.plan

pub returns-clause-bound : goal.returns-clause-bound
returns-clause-bound g c = λ before.
    pushed_plans (g.N.Names.terms c.args.names.now) (read_shapes c.args.shapes.now.shapes) c.args.plans.now.items c.push.new.self.items c.in_ok-number_plan.field-0 c.in_ok-push.ensures.items c.in_ok-number_plan.ensures.bound before
