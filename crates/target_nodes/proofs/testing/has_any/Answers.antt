use Rattle.target_nodes.proofs.Looking.{any_is}
use Rattle.target_nodes.proofs.testing.has_any.Goals as goal

pub returns : goal.returns
returns c = any_is c.args.numbers.now c.is_empty.result c.is_empty.ensures
