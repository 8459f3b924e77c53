use Rattle.shape_model.proofs.Listings.{no_shapes_law}
use Rattle.shape_model.proofs.laws.no_shapes_law.Goals as goal

pub returns : goal.returns
returns c = no_shapes_law
