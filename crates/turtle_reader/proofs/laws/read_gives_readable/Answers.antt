use Rattle.turtle_reader.proofs.NodesWithin.{gives_readable}
use Rattle.turtle_reader.proofs.laws.read_gives_readable.Goals as goal

pub returns : goal.returns
returns c = gives_readable
