use Rattle.std.proofs.Common.{List, subst}
use Rattle.focus_affected.specs.declared.plan.ShapePlan.{ShapePlan}
use Rattle.focus_affected.specs.Index.{IsKindAt, ListsRows}
use Rattle.focus_affected.proofs.Rows.{rows_sorted}
use Rattle.focus_affected.proofs.index.IndexedPlans.new.Goals as goal

pub invariant_of-result : goal.invariant_of-result
invariant_of-result c =
    let plans = c.args.plans.items in
    let rows = c.push_plans.new.rows.items in
    let any = c.push_plans.new.any.items in
    let listed = subst (λ (ps : List ShapePlan). ListsRows (IsKindAt ps) rows any) c.deref.ensures.value c.in_ok-push_plans.ensures in
    (c.in_ok-sorted.ensures.ordered, rows_sorted (IsKindAt plans) rows c.in_ok-sorted.sorted.items any c.in_ok-sorted.ensures.same listed)
