use Rattle.store_laws.proofs.Nodes.{unknown_ascend}
use Rattle.store_laws.proofs.unknown_ascend.Goals as goal

pub returns : goal.returns
returns c = unknown_ascend
