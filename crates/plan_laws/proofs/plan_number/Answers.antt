use Rattle.plan_laws.proofs.WholePlans.{plan_numbers}
use Rattle.plan_laws.proofs.plan_number.Goals as goal

pub returns : goal.returns
returns c = λ s shapes read place shape at. plan_numbers s shapes read place shape at
