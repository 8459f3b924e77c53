use Rattle.plain_values.proofs.Made.{each_made}
use Rattle.plain_values.proofs.rows.rows_where.Goals as goal

pub returns : goal.returns
returns g c =
    each_made c.args.at.now c.args.component c.args.parameter.now (g.T.TermTest.accepts c.args.test.now) c.in_ok-nodes.nodes c.as_slice.result.now c.in_ok-rows.rows.items c.in_ok-nodes.ensures c.as_slice.ensures c.in_ok-rows.ensures
