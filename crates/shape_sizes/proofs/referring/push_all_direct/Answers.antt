use Rattle.std.proofs.Common.{arith}
use Rattle.shape_references.proofs.BoundSteps.{bound_all, bound_first, bound_next}
use Rattle.shape_references.specs.Bundles.{HasBound}
use Rattle.shape_sizes.specs.Referring.{IsReferredBy}
use Rattle.shape_sizes.proofs.referring.push_all_direct.Goals as goal

pub loop-triple-init : goal.loop-triple-init
loop-triple-init c = bound_first (IsReferredBy c.args.graph.now) c.as_slice-triple-items.result.now c.args.bundles.now

pub loop-triple-preserved : goal.loop-triple-preserved
loop-triple-preserved c = bound_next (IsReferredBy c.args.graph.now) c.as_slice-triple-items.result.now c.args.bundles.now c.loop-triple.triple-index c.triple-item.result c.loop-triple.bundles c.push_direct.new.bundles (omega arith) c.triple-item.is c.loop-triple.invariant c.in_ok-push_direct.ensures

pub returns : goal.returns
returns c =
    let s = c.args.graph.now in
    let ts = c.as_slice-triple-items.result.now in
    let found : HasBound (IsReferredBy s) ts c.args.bundles.now c.loop-triple.bundles = bound_all (IsReferredBy s) ts c.args.bundles.now c.loop-triple.triple-index c.loop-triple.bundles (omega arith) c.loop-triple.invariant in
    rw c.as_slice-triple-items.ensures at found
