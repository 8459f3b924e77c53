use Rattle.shape_model.proofs.Looks.{look_law}
use Rattle.shape_model.proofs.laws.look_law.Goals as goal

pub returns : goal.returns
returns c = look_law
