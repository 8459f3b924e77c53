use Rattle.ntriples_text.proofs.Gives.{gives_readable}
use Rattle.ntriples_text.proofs.laws.read_gives_readable.Goals as goal

pub returns : goal.returns
returns c = gives_readable
