use Rattle.std.proofs.Common.{◌<◌, length, map, arith, subst, sym}
use Rattle.std.specs.List.{Contains}
use Rattle.shape_model.specs.Looks.{LookRow}
use Rattle.read_plans.proofs.Lists.{mapped_to}
use Rattle.focus_affected.specs.Plans.{row_of}
use Rattle.shape_plans.proofs.alike.has_look.Goals as goal

pub returns-then-is_same_look : goal.returns-then-is_same_look
returns-then-is_same_look c = λ same terms.
    let looks = c.args.looks.now in
    let less : c.loop-other.other-index < length looks = omega (arith, c.loop-other-test.true) in
    subst (λ (r : LookRow). Contains (map (row_of terms) looks) r) (c.is_same_look.ensures c.if-is_same_look.true terms)
    (mapped_to (row_of terms) looks c.other-item.result (c.loop-other.other-index, less, sym c.other-item.is))
