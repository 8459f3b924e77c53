use Rattle.store_laws.proofs.Nodes.{only_fresh_gives}
use Rattle.store_laws.proofs.only_fresh_gives.Goals as goal

pub returns : goal.returns
returns c = only_fresh_gives
