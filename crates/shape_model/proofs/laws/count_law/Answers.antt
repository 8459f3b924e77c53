use Rattle.shape_model.proofs.Listings.{count_law}
use Rattle.shape_model.proofs.laws.count_law.Goals as goal

pub returns : goal.returns
returns c = count_law
