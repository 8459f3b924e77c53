use Rattle.std.proofs.Common.{◌≡◌, ◌<◌, ◌≤◌, List, length, get_or, ap, arith, subst, sym}
use Rattle.std.proofs.lemmas.List.{get_or_default}
use Rattle.focus_affected.specs.declared.plan.ShapePlan.{ShapePlan}
use Rattle.focus_affected.specs.declared.plan.NumberedLook.{NumberedLook}
use Rattle.focus_affected.specs.Index.{IsItem}
use Rattle.focus_affected.proofs.Rows.{next_plan, next_row}
use Rattle.focus_affected.proofs.index.push_plan.Goals as goal

pub loop-look-preserved : goal.loop-look-preserved
loop-look-preserved c =
    let plans = c.args.plans.now in
    let plan : ShapePlan = get_or plans c.args.plan c.index-plans-plan.result in
    let here : IsItem plans c.args.plan plan = (c.requires, get_or_default plans c.args.plan plan c.index-plans-plan.result c.requires) in
    let j = c.loop-look.look in
    let looks = c.as_slice-looks.result.now in
    let look : NumberedLook = get_or looks j c.index-looks-look.result in
    let within : j < length looks = omega (arith, c.loop-look-test.true) in
    let is : look ≡ get_or plan.looks j look = subst (λ (ls : List NumberedLook). look ≡ get_or ls j look) c.as_slice-looks.ensures (get_or_default looks j c.index-looks-look.result look within) in
    let many : length looks ≡ length plan.looks = ap length c.as_slice-looks.ensures in
    let less : j < length plan.looks = omega (arith, within, many) in
    λ l. next_row plans c.args.plan plan here j look (less, sym is) c.loop-look.rows.items c.push_row.new.rows.items c.loop-look.any.items c.push_row.new.any.items
    c.in_ok-push_row.ensures.rows c.in_ok-push_row.ensures.any (c.loop-look.invariant l)

pub returns : goal.returns
returns c =
    let plans = c.args.plans.now in
    let plan : ShapePlan = get_or plans c.args.plan c.index-plans-plan.result in
    let here : IsItem plans c.args.plan plan = (c.requires, get_or_default plans c.args.plan plan c.index-plans-plan.result c.requires) in
    let many : length c.as_slice-looks.result.now ≡ length plan.looks = ap length c.as_slice-looks.ensures in
    let all : length plan.looks ≤ c.loop-look.look = omega (arith, c.loop-look-test.false, many) in
    λ l. next_plan plans c.args.plan plan here c.loop-look.look all c.loop-look.rows.items c.loop-look.any.items (c.loop-look.invariant l)
