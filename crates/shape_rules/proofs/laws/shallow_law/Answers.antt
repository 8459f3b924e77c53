use Rattle.shape_rules.proofs.Shallow.{shallow}
use Rattle.shape_rules.proofs.laws.shallow_law.Goals as goal

pub returns : goal.returns
returns c = shallow
