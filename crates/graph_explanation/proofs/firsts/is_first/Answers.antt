use Rattle.graph_explanation.proofs.Keeping.{new_at, old_at}
use Rattle.graph_explanation.proofs.firsts.is_first.Goals as goal

pub returns-clause-new : goal.returns-clause-new
returns-clause-new c is_new =
    new_at c.args.aimed.now c.requires.order c.args.place c.index-aimed-place.result c.index-aimed-place-2.result c.requires.place c.if-place-eq0.false c.index-aimed-place.is c.index-aimed-place-2.is (c.is_before.ensures.0 is_new)

pub returns-clause-old : goal.returns-clause-old
returns-clause-old c is_old =
    old_at c.args.aimed.now c.requires.order c.args.place c.index-aimed-place.result c.index-aimed-place-2.result c.requires.place c.if-place-eq0.false c.index-aimed-place.is c.index-aimed-place-2.is
    (λ less. let is_new = c.is_before.ensures.1 less in cc (is_new, is_old))
