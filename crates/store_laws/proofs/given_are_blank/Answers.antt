use Rattle.store_laws.proofs.Nodes.{given_are_blank}
use Rattle.store_laws.proofs.given_are_blank.Goals as goal

pub returns : goal.returns
returns c = given_are_blank
