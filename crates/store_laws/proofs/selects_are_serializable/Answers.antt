use Rattle.store_laws.proofs.Joins.{selects_are_serializable}
use Rattle.store_laws.proofs.selects_are_serializable.Goals as goal

pub returns : goal.returns
returns c = selects_are_serializable
