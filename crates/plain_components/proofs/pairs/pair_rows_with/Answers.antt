use Rattle.plain_components.specs.Rows.{PairRow}
use Rattle.plain_terms.proofs.FoundItems.{some_all, some_step}
use Rattle.plain_components.proofs.pairs.pair_rows_with.Goals as goal

pub loop-value-preserved : goal.loop-value-preserved
loop-value-preserved c =
    let at = c.args.at.now in
    some_step (PairRow at c.args.component c.args.parameter.now c.args.others.now) at.values.now c.loop-value.value-index c.value-item.result c.loop-value.rows.items c.in_ok-more.more.items c.append.new.self.items
    c.loop-value-test.true c.value-item.is c.in_ok-append.ensures.items c.loop-value.invariant c.in_ok-more.ensures

pub returns : goal.returns
returns c =
    let at = c.args.at.now in
    some_all (PairRow at c.args.component c.args.parameter.now c.args.others.now) at.values.now c.loop-value.value-index c.loop-value.rows.items c.loop-value-test.false c.loop-value.invariant
