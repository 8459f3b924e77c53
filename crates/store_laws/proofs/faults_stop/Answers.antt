use Rattle.store_model.proofs.Logs.{FaultsStop-holds}
use Rattle.store_laws.proofs.faults_stop.Goals as goal

pub returns : goal.returns
returns c = FaultsStop-holds
