use Rattle.std.proofs.Common.{[], arith}
use Rattle.shape_syntax.proofs.Loops.{gathered_none, gathered_next, gathered_all}
use Rattle.shape_references.specs.Bundles.{IsNodeOf}
use Rattle.shape_references.proofs.names.all_nodes.Goals as goal

pub loop-bundle-init : goal.loop-bundle-init
loop-bundle-init c = rw c.new-nodes.ensures (gathered_none IsNodeOf c.args.bundles.now [])

pub loop-bundle-preserved : goal.loop-bundle-preserved
loop-bundle-preserved c = gathered_next IsNodeOf c.args.bundles.now c.loop-bundle.bundle-index c.bundle-item.result [] c.loop-bundle.nodes c.push_nodes.new.nodes (omega arith) c.bundle-item.is c.loop-bundle.invariant c.in_ok-push_nodes.ensures

pub returns : goal.returns
returns c = gathered_all IsNodeOf c.args.bundles.now c.loop-bundle.bundle-index [] c.loop-bundle.nodes (omega arith) c.loop-bundle.invariant
