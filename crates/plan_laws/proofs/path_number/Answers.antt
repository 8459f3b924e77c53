use Rattle.plan_laws.proofs.PathNumbers.{path_count}
use Rattle.plan_laws.proofs.path_number.Goals as goal

pub returns : goal.returns
returns c = λ reversed p q. path_count p reversed q
