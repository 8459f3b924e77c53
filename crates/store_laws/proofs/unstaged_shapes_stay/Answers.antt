use Rattle.store_laws.proofs.Versions.{unstaged_shapes_stay}
use Rattle.store_laws.proofs.unstaged_shapes_stay.Goals as goal

pub returns : goal.returns
returns c = unstaged_shapes_stay
