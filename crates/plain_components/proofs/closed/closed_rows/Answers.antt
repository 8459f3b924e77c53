use Rattle.plain_components.proofs.Closings.{closed_made, not_closed}
use Rattle.plain_components.proofs.closed.closed_rows.Goals as goal

pub returns-then-not-is_true : goal.returns-then-not-is_true
returns-then-not-is_true c = not_closed c.args.at.now c.args.parameter.now c.new.result.items (λ e. let t = c.is_true.ensures.1 e in cc (t, c.if-not-is_true.true)) c.new.ensures.items

pub returns : goal.returns
returns c =
    closed_made c.args.at.now c.args.parameter.now c.in_ok-allowed.allowed.items c.as_slice.result.now c.in_ok-rows.rows.items (c.is_true.ensures.0 c.if-not-is_true.false) c.in_ok-allowed.ensures c.as_slice.ensures.value c.in_ok-rows.ensures
