use Rattle.shape_model.proofs.NodeLooks.{reads_law}
use Rattle.shape_model.proofs.laws.reads_law.Goals as goal

pub returns : goal.returns
returns c = reads_law
