use Rattle.std.proofs.Common.{◌≡◌}
use Rattle.plain_terms.proofs.FoundItems.{some_all, some_step}
use Rattle.plain_terms.specs.Pairs.{Linked}
use Rattle.plain_terms.proofs.PairLists.{found_if}
use Rattle.plain_terms.proofs.pairs.pairs_after.Goals as goal

pub loop-other-preserved : goal.loop-other-preserved
loop-other-preserved c =
    let a = c.args.pair.now in
    let b = c.other-item.result in
    some_step (Linked a) c.args.others.now c.loop-other.other-index b c.loop-other.found.items c.in_ok-more.more.items c.append.new.self.items c.loop-other-test.true c.other-item.is c.in_ok-append.ensures.items c.loop-other.invariant
    (found_if (a.to ≡ b.from) c.is_same-meets.result (record { from = a.from; to = b.to }) c.in_ok-more.more.items c.is_same-meets.ensures c.in_ok-more.ensures)

pub returns : goal.returns
returns c = some_all (Linked c.args.pair.now) c.args.others.now c.loop-other.other-index c.loop-other.found.items c.loop-other-test.false c.loop-other.invariant
