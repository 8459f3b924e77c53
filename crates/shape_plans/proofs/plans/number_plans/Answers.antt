use Rattle.std.proofs.Common.{◌≡◌, ◌∙◌, ◌<◌, ◌≤◌, List, [], length, arith, subst, sym}
use Rattle.std.proofs.lemmas.List.{length-map}
use Rattle.std.proofs.lemmas.List.Elements.{All-nil}
use Rattle.shape_ast.specs.Readings.{read_shape, read_shapes}
use Rattle.focus_affected.specs.declared.plan.ShapePlan.{ShapePlan}
use Rattle.focus_affected.specs.Plans.{AreBoundPlans, IsBoundPlan}
use Rattle.shape_plans.specs.Planned.{AreFirstPlans}
use Rattle.shape_plans.proofs.Standing.{no_plans, plans_stand}
use Rattle.shape_plans.proofs.plans.number_plans.Goals as goal

pub loop-place-init : goal.loop-place-init
loop-place-init g c =
    let terms = g.N.Names.terms c.args.names.now in
    record {
      bound = subst (λ (ps : List ShapePlan). AreBoundPlans (length terms) ps) (sym c.new-plans.ensures.items) (All-nil (IsBoundPlan (length terms)));
      first = no_plans terms (read_shapes c.args.shapes.now.shapes) c.new-plans.result.items c.new-plans.ensures.items;
    }

pub loop-place-preserved : goal.loop-place-preserved
loop-place-preserved g c = record {
  bound = c.in_ok-push_plan.ensures.bound c.loop-place.invariant.bound;
  first = c.in_ok-push_plan.ensures.first c.loop-place.invariant.first;
}

pub returns-clause-plans : goal.returns-clause-plans
returns-clause-plans g c =
    let terms = g.N.Names.terms c.args.names.now in
    let shapes = c.args.shapes.now.shapes in
    let many : length (read_shapes shapes) ≡ length shapes = length-map shapes (read_shape (λ t. t)) in
    let all : c.loop-place.place ≡ length (read_shapes shapes) = omega (arith, c.loop-place-test.false, c.loop-place.auto.place-end, c.len-place-end.ensures, many) in
    plans_stand terms shapes c.loop-place.plans.items c.requires.named (subst (λ k. AreFirstPlans terms (read_shapes shapes) k c.loop-place.plans.items) all c.loop-place.invariant.first)
