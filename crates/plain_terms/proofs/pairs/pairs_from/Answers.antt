use Rattle.std.proofs.Common.{◌≡◌, [], ◌∷◌}
use Rattle.plain_terms.proofs.FoundItems.{some_all, some_step}
use Rattle.plain_terms.specs.declared.relation.Pair.{Pair}
use Rattle.plain_terms.proofs.PairLists.{just_one}
use Rattle.plain_terms.proofs.pairs.pairs_from.Goals as goal

pub loop-to-preserved : goal.loop-to-preserved
loop-to-preserved c =
    let to = c.to-item.result in
    some_step (λ to (pair : Pair). pair ≡ record { from = c.args.from.now; to = to }) c.args.ends.now c.loop-to.to-index to c.loop-to.pairs.items (c.in_ok-pair_of.field-0 ∷ []) c.push.new.self.items c.loop-to-test.true c.to-item.is c.in_ok-push.ensures.items c.loop-to.invariant
    (just_one c.in_ok-pair_of.field-0 (record { from = c.args.from.now; to = to }) c.in_ok-pair_of.ensures)

pub returns : goal.returns
returns c = some_all (λ to (pair : Pair). pair ≡ record { from = c.args.from.now; to = to }) c.args.ends.now c.loop-to.to-index c.loop-to.pairs.items c.loop-to-test.false c.loop-to.invariant
