use Rattle.plain_components.proofs.Paired.{pairs_made}
use Rattle.plain_components.proofs.pairs.pair_rows.Goals as goal

pub returns : goal.returns
returns c =
    pairs_made c.args.at.now c.args.component c.args.parameter.now c.in_ok-others.others c.as_slice.result.now c.in_ok-rows.rows.items c.in_ok-others.ensures c.as_slice.ensures c.in_ok-rows.ensures
