use Rattle.shape_rules.proofs.OneLeast.{one_least}
use Rattle.shape_rules.proofs.laws.least_law.Goals as goal

pub returns : goal.returns
returns c = one_least
