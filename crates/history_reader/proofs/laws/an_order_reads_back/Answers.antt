use Rattle.history_reader.proofs.Orders.{reads_back}
use Rattle.history_reader.proofs.laws.an_order_reads_back.Goals as goal

pub returns : goal.returns
returns c = reads_back
