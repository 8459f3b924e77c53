use Rattle.store_laws.proofs.Blocking.{no_blocking_stays}
use Rattle.store_laws.proofs.no_blocking_stays.Goals as goal

pub returns : goal.returns
returns c = no_blocking_stays
