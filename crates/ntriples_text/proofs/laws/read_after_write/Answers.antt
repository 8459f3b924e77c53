use Rattle.ntriples_text.proofs.RoundTrip.{reads_again}
use Rattle.ntriples_text.proofs.laws.read_after_write.Goals as goal

pub returns : goal.returns
returns c = reads_again
