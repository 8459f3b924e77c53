use Rattle.shape_model.proofs.Listings.{listing_law}
use Rattle.shape_model.proofs.laws.listing_law.Goals as goal

pub returns : goal.returns
returns c = listing_law
