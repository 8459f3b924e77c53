use Rattle.kept_rows.proofs.Merged.{listing_law}
use Rattle.kept_rows.proofs.laws.listing_law.Goals as goal

pub returns : goal.returns
returns c = listing_law
