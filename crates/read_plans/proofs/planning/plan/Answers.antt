use Rattle.std.proofs.Common.{◌≡◌, ◌∙◌, ◌++◌, List, ap, sym, subst}
use Rattle.shape_model.specs.Looks.{LookRow}
use Rattle.shape_ast.specs.Readings.{read_shapes}
use Rattle.read_plans.specs.Laws.{ListLooks}
use Rattle.read_plans.specs.NamedRows.{AreNamedWith}
use Rattle.read_plans.specs.Rows.{read_looks}
use Rattle.read_plans.specs.ShapeRows.{plan_rows}
use Rattle.read_plans.proofs.NamedRows.{plan_named}
use Rattle.read_plans.proofs.Plans.{plan_lists}
use Rattle.read_plans.proofs.planning.plan.Goals as goal

pub returns-clause-looks : goal.returns-clause-looks
returns-clause-looks c =
    let shapes = c.args.shapes.now.shapes in
    let none = c.new-rows.ensures in
    let all = c.as_slice.ensures in
    let rows : read_looks c.into_vec.result.items ≡ plan_rows (read_shapes shapes) c.args.shape =
    ap read_looks c.into_vec.ensures.same ∙ c.in_ok-push_plan.ensures ∙ (λ i. read_looks (none i) ++ plan_rows (read_shapes (all i)) c.args.shape) in
    subst (λ (found : List LookRow). ListLooks shapes c.args.shape found) (sym rows) (plan_lists shapes c.args.shape)

pub returns-clause-named : goal.returns-clause-named
returns-clause-named c =
    let shapes = c.args.shapes.now.shapes in
    let none = c.new-rows.ensures in
    let all = c.as_slice.ensures in
    let rows : read_looks c.into_vec.result.items ≡ plan_rows (read_shapes shapes) c.args.shape =
    ap read_looks c.into_vec.ensures.same ∙ c.in_ok-push_plan.ensures ∙ (λ i. read_looks (none i) ++ plan_rows (read_shapes (all i)) c.args.shape) in
    subst (λ (found : List LookRow). AreNamedWith shapes found) (sym rows) (plan_named shapes c.args.shape)
