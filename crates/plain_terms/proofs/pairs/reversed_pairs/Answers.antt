use Rattle.std.proofs.Common.{[], ◌∷◌}
use Rattle.plain_terms.proofs.FoundItems.{some_all, some_step}
use Rattle.plain_terms.specs.Pairs.{Reversed}
use Rattle.plain_terms.proofs.PairLists.{just_one}
use Rattle.plain_terms.proofs.pairs.reversed_pairs.Goals as goal

pub loop-pair-preserved : goal.loop-pair-preserved
loop-pair-preserved c =
    let a = c.pair-item.result in
    some_step Reversed c.args.pairs.now c.loop-pair.pair-index a c.loop-pair.reversed.items (c.in_ok-pair_of.field-0 ∷ []) c.push.new.self.items c.loop-pair-test.true c.pair-item.is c.in_ok-push.ensures.items c.loop-pair.invariant
    (just_one c.in_ok-pair_of.field-0 (record { from = a.to; to = a.from }) c.in_ok-pair_of.ensures)

pub returns : goal.returns
returns c = some_all Reversed c.args.pairs.now c.loop-pair.pair-index c.loop-pair.reversed.items c.loop-pair-test.false c.loop-pair.invariant
