use Rattle.blocking.proofs.Blocking.{nothing_blocks}
use Rattle.blocking.proofs.laws.nothing_blocks_law.Goals as goal

pub returns : goal.returns
returns c = nothing_blocks
