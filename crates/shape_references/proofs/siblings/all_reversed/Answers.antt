use Rattle.std.proofs.Common.{[], arith}
use Rattle.shape_syntax.proofs.Loops.{gathered_none, gathered_next, gathered_all, from_none}
use Rattle.shape_references.specs.Siblings.{IsReverseOf}
use Rattle.shape_references.proofs.siblings.all_reversed.Goals as goal

pub loop-triple-init : goal.loop-triple-init
loop-triple-init c = rw c.new-reversed.ensures (gathered_none IsReverseOf c.args.graph.now [])

pub loop-triple-preserved : goal.loop-triple-preserved
loop-triple-preserved c = gathered_next IsReverseOf c.args.graph.now c.loop-triple.triple-index c.triple-item.result [] c.loop-triple.reversed c.push_reversed.new.reversed (omega arith) c.triple-item.is c.loop-triple.invariant c.in_ok-push_reversed.ensures

pub returns : goal.returns
returns c = from_none IsReverseOf c.args.graph.now c.loop-triple.reversed (gathered_all IsReverseOf c.args.graph.now c.loop-triple.triple-index [] c.loop-triple.reversed (omega arith) c.loop-triple.invariant)
