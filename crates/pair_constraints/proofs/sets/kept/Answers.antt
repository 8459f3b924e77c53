use Rattle.pair_constraints.proofs.Values.{one_step, all_kept}
use Rattle.pair_constraints.proofs.sets.kept.Goals as goal

pub loop-number-preserved : goal.loop-number-preserved
loop-number-preserved c =
    one_step c.args.numbers.now c.args.others.now c.args.is_wanted c.loop-number.number-index c.is_kept.result c.loop-number.found.items c.keep.new.found.items
    c.loop-number-test.true c.in_ok-keep.ensures c.is_kept.ensures c.loop-number.invariant

pub returns : goal.returns
returns c = all_kept c.args.numbers.now c.args.others.now c.args.is_wanted c.loop-number.number-index c.loop-number.found.items c.loop-number-test.false c.loop-number.invariant
