use Rattle.shape_model.proofs.Listings.{conforms_law}
use Rattle.shape_model.proofs.laws.conforms_law.Goals as goal

pub returns : goal.returns
returns c = conforms_law
