use Rattle.turtle_reader.proofs.ReadBack.{reads_back}
use Rattle.turtle_reader.proofs.laws.read_back_after_write.Goals as goal

pub returns : goal.returns
returns c = reads_back
