use Rattle.store_laws.proofs.Blocking.{no_blocking_is_no_result}
use Rattle.store_laws.proofs.no_blocking_is_no_result.Goals as goal

pub returns : goal.returns
returns c = no_blocking_is_no_result
