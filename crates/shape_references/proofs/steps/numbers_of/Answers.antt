use Rattle.std.proofs.Common.{arith}
use Rattle.shape_references.proofs.NumberedNodes.{numbered_step}
use Rattle.shape_references.proofs.steps.numbers_of.Goals as goal

pub loop-index-preserved : goal.loop-index-preserved
loop-index-preserved c = numbered_step c.args.graph.now c.loop-index.index c.loop-index.numbers c.put_number.new.numbers (omega arith) c.loop-index.invariant c.in_ok-put_number.ensures
