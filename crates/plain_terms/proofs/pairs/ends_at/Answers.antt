use Rattle.plain_terms.proofs.FoundItems.{some_all, some_step}
use Rattle.plain_terms.specs.Pairs.{EndOf}
use Rattle.plain_terms.proofs.pairs.ends_at.Goals as goal

pub loop-pair-preserved : goal.loop-pair-preserved
loop-pair-preserved c =
    some_step (EndOf c.args.node.now) c.args.pairs.now c.loop-pair.pair-index c.pair-item.result c.loop-pair.ends.items c.in_ok-more.more.items c.append.new.self.items c.loop-pair-test.true c.pair-item.is c.in_ok-append.ensures.items c.loop-pair.invariant c.in_ok-more.ensures

pub returns : goal.returns
returns c = some_all (EndOf c.args.node.now) c.args.pairs.now c.loop-pair.pair-index c.loop-pair.ends.items c.loop-pair-test.false c.loop-pair.invariant
