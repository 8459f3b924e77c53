use Rattle.std.proofs.Common.{◌≤◌, length, arith}
use Rattle.focus_affected.proofs.Rows.{all_plans}
use Rattle.focus_affected.proofs.index.push_plans.Goals as goal

pub returns : goal.returns
returns c =
    let all : length c.args.plans.now ≤ c.loop-plan.plan = omega (arith, c.loop-plan-test.false) in
    all_plans c.args.plans.now c.loop-plan.plan all c.loop-plan.rows.items c.loop-plan.any.items c.loop-plan.invariant
