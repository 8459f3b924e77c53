use Rattle.shape_model.proofs.Covers.{cover_law}
use Rattle.shape_model.proofs.laws.cover_law.Goals as goal

pub returns : goal.returns
returns c = cover_law
