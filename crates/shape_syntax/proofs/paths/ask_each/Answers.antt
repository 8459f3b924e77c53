use Rattle.std.proofs.Common.{arith}
use Rattle.shape_syntax.proofs.Asked.{asked_none, asked_next, asked_all}
use Rattle.shape_syntax.proofs.paths.ask_each.Goals as goal

pub loop-claim-init : goal.loop-claim-init
loop-claim-init c = rw c.new-left.ensures (asked_none c.args.graph.now c.args.waiting.now c.args.known.now.paths.keys c.args.known.now.lists.keys)

pub loop-claim-preserved : goal.loop-claim-preserved
loop-claim-preserved c =
    asked_next c.args.graph.now c.args.waiting.now c.loop-claim.claim-index c.claim-item.result c.args.known.now.paths.keys c.args.known.now.lists.keys c.loop-claim.known.paths.keys c.loop-claim.known.lists.keys c.ask.new.known.paths.keys c.ask.new.known.lists.keys c.loop-claim.left c.ask.new.left (omega arith) c.claim-item.is c.loop-claim.invariant c.in_ok-ask.ensures

pub returns : goal.returns
returns c = asked_all c.args.graph.now c.args.waiting.now c.loop-claim.claim-index c.args.known.now.paths.keys c.args.known.now.lists.keys c.loop-claim.known.paths.keys c.loop-claim.known.lists.keys c.loop-claim.left (omega arith) (omega arith) c.loop-claim.invariant
