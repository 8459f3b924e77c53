use Rattle.store_model.proofs.Logs.{UnloggedRun-holds}
use Rattle.store_laws.proofs.unlogged_run.Goals as goal

pub returns : goal.returns
returns c = UnloggedRun-holds
