use Rattle.store_laws.proofs.Blocking.{rows_refuse_all}
use Rattle.store_laws.proofs.rows_refuse_all.Goals as goal

pub returns : goal.returns
returns c = rows_refuse_all
