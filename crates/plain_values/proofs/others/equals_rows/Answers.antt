use Rattle.plain_values.proofs.Made.{equals_made}
use Rattle.plain_values.proofs.others.equals_rows.Goals as goal

pub returns : goal.returns
returns c =
    equals_made c.args.at.now c.args.parameter.now c.in_ok-others.others c.in_ok-rows.rows.items c.in_ok-more.more.items c.append.new.self.items c.in_ok-others.ensures c.in_ok-append.ensures.items c.in_ok-rows.ensures c.in_ok-more.ensures
