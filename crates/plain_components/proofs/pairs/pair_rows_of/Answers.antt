use Rattle.plain_components.proofs.Paired.{beside_made}
use Rattle.plain_components.proofs.pairs.pair_rows_of.Goals as goal

pub returns : goal.returns
returns c =
    beside_made c.args.at.now c.args.component c.args.parameter.now c.args.value.now c.args.others.now c.in_ok-wrong.wrong c.as_slice.result.now c.in_ok-rows.rows.items c.as_slice.ensures c.in_ok-wrong.ensures c.in_ok-rows.ensures
