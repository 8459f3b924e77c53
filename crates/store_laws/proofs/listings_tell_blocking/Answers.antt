use Rattle.store_laws.proofs.Blocking.{listings_tell_blocking}
use Rattle.store_laws.proofs.listings_tell_blocking.Goals as goal

pub returns : goal.returns
returns c = listings_tell_blocking
