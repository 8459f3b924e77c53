use Rattle.store_laws.proofs.Nodes.{unknown_comes_first}
use Rattle.store_laws.proofs.unknown_comes_first.Goals as goal

pub returns : goal.returns
returns c = unknown_comes_first
