use Rattle.shape_model.proofs.Bridges.{compiled_law}
use Rattle.shape_model.proofs.laws.compiled_law.Goals as goal

pub returns : goal.returns
returns c = compiled_law
