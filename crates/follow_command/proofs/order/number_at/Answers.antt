use Rattle.follow_command.proofs.Ordering.{no_utf8}
use Rattle.follow_command.proofs.order.number_at.Goals as goal

pub returns-in-Err : goal.returns-in-Err
returns-in-Err c = no_utf8 c.args.count c.args.place.now c.ranges.count.fits c.in-Err.ensures.cases.0
