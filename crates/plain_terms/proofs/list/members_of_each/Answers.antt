use Rattle.plain_terms.specs.Finds.{IsListed}
use Rattle.plain_terms.proofs.FoundItems.{some_all, some_step}
use Rattle.plain_terms.proofs.list.members_of_each.Goals as goal

pub loop-head-preserved : goal.loop-head-preserved
loop-head-preserved c =
    some_step (IsListed c.args.graph.now) c.args.heads.now c.loop-head.head-index c.head-item.result c.loop-head.found.items c.in_ok-more.more.items c.append.new.self.items c.loop-head-test.true c.head-item.is
    c.in_ok-append.ensures.items c.loop-head.invariant c.in_ok-more.ensures

pub returns : goal.returns
returns c = some_all (IsListed c.args.graph.now) c.args.heads.now c.loop-head.head-index c.loop-head.found.items c.loop-head-test.false c.loop-head.invariant
