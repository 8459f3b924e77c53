use Rattle.shape_syntax.proofs.OnePath.{too_deep}
use Rattle.shape_syntax.proofs.reading.read_path.Goals as goal

pub returns-in-None : goal.returns-in-None
returns-in-None c = (λ e. cc, λ e. too_deep c.args.graph.now c.args.node.now 256 (rw c.in-None.is at c.in_ok-path.ensures))
