use Rattle.store_laws.proofs.Nodes.{attached_are_given}
use Rattle.store_laws.proofs.attached_are_given.Goals as goal

pub returns : goal.returns
returns c = attached_are_given
