use Rattle.store_laws.proofs.Serial.{finds_are_serializable}
use Rattle.store_laws.proofs.finds_are_serializable.Goals as goal

pub returns : goal.returns
returns c = finds_are_serializable
