use Rattle.plain_terms.proofs.PairLists.{once_all, once_more}
use Rattle.plain_terms.proofs.pairs.each_once.Goals as goal

pub loop-pair-preserved : goal.loop-pair-preserved
loop-pair-preserved c = once_more c.args.pairs.now c.loop-pair.pair-index c.pair-item.result c.loop-pair.found c.add_new.new.pairs c.loop-pair-test.true c.pair-item.is c.loop-pair.invariant c.in_ok-add_new.ensures

pub returns : goal.returns
returns c = once_all c.args.pairs.now c.loop-pair.pair-index c.loop-pair.found c.loop-pair-test.false c.loop-pair.invariant
