use Rattle.shape_model.proofs.Walks.{walk_law}
use Rattle.shape_model.proofs.laws.walk_law.Goals as goal

pub returns : goal.returns
returns c = walk_law
