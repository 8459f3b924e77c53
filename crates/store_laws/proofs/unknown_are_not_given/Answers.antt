use Rattle.store_laws.proofs.Nodes.{unknown_are_not_given}
use Rattle.store_laws.proofs.unknown_are_not_given.Goals as goal

pub returns : goal.returns
returns c = unknown_are_not_given
