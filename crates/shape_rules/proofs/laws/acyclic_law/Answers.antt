use Rattle.shape_rules.proofs.Acyclic.{acyclic}
use Rattle.shape_rules.proofs.laws.acyclic_law.Goals as goal

pub returns : goal.returns
returns c = acyclic
