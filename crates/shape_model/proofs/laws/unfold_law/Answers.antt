use Rattle.shape_model.proofs.Fuel.{unfold_law}
use Rattle.shape_model.proofs.laws.unfold_law.Goals as goal

pub returns : goal.returns
returns c = unfold_law
