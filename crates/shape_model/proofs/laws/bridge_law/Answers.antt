use Rattle.shape_model.proofs.Bridges.{bridge_law}
use Rattle.shape_model.proofs.laws.bridge_law.Goals as goal

pub returns : goal.returns
returns c = bridge_law
