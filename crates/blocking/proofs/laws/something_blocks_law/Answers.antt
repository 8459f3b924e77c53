use Rattle.blocking.proofs.Blocking.{something_blocks}
use Rattle.blocking.proofs.laws.something_blocks_law.Goals as goal

pub returns : goal.returns
returns c = something_blocks
