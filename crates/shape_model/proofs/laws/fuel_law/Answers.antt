use Rattle.shape_model.proofs.Fuel.{fuel_law}
use Rattle.shape_model.proofs.laws.fuel_law.Goals as goal

pub returns : goal.returns
returns c = fuel_law
