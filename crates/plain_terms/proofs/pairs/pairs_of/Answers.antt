use Rattle.std.proofs.Common.{◌≡◌}
use Rattle.plain_terms.proofs.FoundItems.{some_all, some_step}
use Rattle.plain_terms.specs.Pairs.{FromTriple}
use Rattle.plain_terms.proofs.PairLists.{found_if}
use Rattle.plain_terms.proofs.pairs.pairs_of.Goals as goal

pub loop-triple-preserved : goal.loop-triple-preserved
loop-triple-preserved c =
    let t = c.triple-item.result in
    some_step (FromTriple c.args.predicate.now) c.args.graph.now c.loop-triple.triple-index t c.loop-triple.pairs.items c.in_ok-more.more.items c.append.new.self.items c.loop-triple-test.true c.triple-item.is c.in_ok-append.ensures.items c.loop-triple.invariant
    (found_if (t.predicate ≡ c.args.predicate.now) c.is_same-along.result (record { from = t.subject; to = t.object }) c.in_ok-more.more.items c.is_same-along.ensures c.in_ok-more.ensures)

pub returns : goal.returns
returns c = some_all (FromTriple c.args.predicate.now) c.args.graph.now c.loop-triple.triple-index c.loop-triple.pairs.items c.loop-triple-test.false c.loop-triple.invariant
