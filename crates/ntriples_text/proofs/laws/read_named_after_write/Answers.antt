use Rattle.ntriples_text.proofs.RoundTrip.{reads_named_again}
use Rattle.ntriples_text.proofs.laws.read_named_after_write.Goals as goal

pub returns : goal.returns
returns c = reads_named_again
