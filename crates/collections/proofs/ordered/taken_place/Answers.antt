use Rattle.std.proofs.Common.{◌++◌, take, ◌∙◌, sym, ap, arith}
use Rattle.collections.proofs.Places.{without-at}
use Rattle.collections.proofs.ordered.taken_place.Goals as goal

pub returns-in-Equal : goal.returns-in-Equal
returns-in-Equal g c = (
  omega arith,
  c.loop-i.invariant ∙ ap (λ w. take c.loop-i.i c.args.items.now ++ w) (without-at g.T.Ord.cmp c.args.item.now c.args.items.now c.loop-i.i c.index-items-i.result c.loop-i-test.true c.index-items-i.is (sym c.in-Equal.ensures)),
)
