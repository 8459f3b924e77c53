use Rattle.log_command.proofs.Greatest.{greatest_on}
use Rattle.log_command.proofs.nodes.greatest_in.Goals as goal

pub loop-entry-preserved : goal.loop-entry-preserved
loop-entry-preserved c = greatest_on c.args.session c.loop-entry.greatest c.greatest_in_record.result c.larger-greatest.result c.args.records.now c.loop-entry.entry-index c.entry-item.result c.loop-entry-test.true c.entry-item.is c.greatest_in_record.ensures c.larger-greatest.ensures c.loop-entry.invariant
