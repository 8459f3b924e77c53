use Rattle.store_model.proofs.Steps.{StepIsDeterministic-holds}
use Rattle.store_laws.proofs.step_is_deterministic.Goals as goal

pub returns : goal.returns
returns c = StepIsDeterministic-holds
