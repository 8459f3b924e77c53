use Rattle.shape_model.proofs.Fuel.{depth_law}
use Rattle.shape_model.proofs.laws.depth_law.Goals as goal

pub returns : goal.returns
returns c = depth_law
