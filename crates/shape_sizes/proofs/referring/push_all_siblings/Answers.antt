use Rattle.std.proofs.Common.{arith}
use Rattle.shape_references.proofs.BoundSteps.{bound_all, bound_first, bound_next}
use Rattle.shape_references.specs.Siblings.{AreUnder}
use Rattle.shape_sizes.proofs.referring.push_all_siblings.Goals as goal

pub loop-parent-init : goal.loop-parent-init
loop-parent-init c = bound_first (AreUnder c.args.graph.now) c.args.parents.now c.args.bundles.now

pub loop-parent-preserved : goal.loop-parent-preserved
loop-parent-preserved c = bound_next (AreUnder c.args.graph.now) c.args.parents.now c.args.bundles.now c.loop-parent.parent-index c.parent-item.result c.loop-parent.bundles c.push_sibling_bundle.new.bundles (omega arith) c.parent-item.is c.loop-parent.invariant c.in_ok-push_sibling_bundle.ensures

pub returns : goal.returns
returns c = bound_all (AreUnder c.args.graph.now) c.args.parents.now c.args.bundles.now c.loop-parent.parent-index c.loop-parent.bundles (omega arith) c.loop-parent.invariant
