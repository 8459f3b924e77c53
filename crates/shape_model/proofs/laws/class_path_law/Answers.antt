use Rattle.shape_model.proofs.Looks.{class_path_law}
use Rattle.shape_model.proofs.laws.class_path_law.Goals as goal

pub returns : goal.returns
returns c = class_path_law
