use Rattle.std.proofs.Common.{◌<◌, ℕ, List, length, subst}
use Rattle.std.proofs.lemmas.List.Sorted.{IsPermutation-more}
use Rattle.bgp_query.specs.declared.pattern.JoinPattern.{JoinPattern}
use Rattle.bgp_query.proofs.plan.planned.Goals as goal

pub loop-plan-preserved : goal.loop-plan-preserved
loop-plan-preserved c =
    let place = c.next_place-place.result in
    let inside = subst (λ (ps : List (JoinPattern ℕ)). place < length ps) c.deref-in-loop-plan.ensures.value c.next_place-place.ensures in
    rw (c.in_ok-push.ensures.items, c.remove.ensures.items)
    (IsPermutation-more c.args.patterns.now c.loop-plan.plan.items c.loop-plan.left.items place c.remove.result inside c.remove.ensures.value c.loop-plan.invariant)
