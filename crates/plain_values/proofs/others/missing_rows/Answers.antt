use Rattle.plain_values.proofs.Made.{missing_made}
use Rattle.plain_values.proofs.others.missing_rows.Goals as goal

pub returns : goal.returns
returns c =
    missing_made c.args.at.now c.args.parameter.now c.args.others.now c.in_ok-values.values c.as_slice.result.now c.in_ok-missing.missing c.as_slice-2.result.now c.in_ok-rows.rows.items
    c.in_ok-values.ensures c.as_slice.ensures c.as_slice-2.ensures c.in_ok-missing.ensures c.in_ok-rows.ensures
