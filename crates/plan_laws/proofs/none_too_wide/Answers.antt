use Rattle.plan_laws.proofs.WholePlans.{none_wide, only_memory}
use Rattle.plan_laws.proofs.none_too_wide.Goals as goal

pub returns-clause-wide : goal.returns-clause-wide
returns-clause-wide c = λ s shapes read place. none_wide s shapes read place

pub returns-clause-fault : goal.returns-clause-fault
returns-clause-fault c = λ s shapes read place fault stopped. only_memory s shapes read place fault stopped
