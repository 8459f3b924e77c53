use Rattle.shape_model.proofs.Declarations.{values_law}
use Rattle.shape_model.proofs.laws.values_law.Goals as goal

pub returns : goal.returns
returns c = values_law
