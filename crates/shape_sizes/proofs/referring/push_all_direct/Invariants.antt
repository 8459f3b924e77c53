use Rattle.std.proofs.Common.{take}
use Rattle.shape_references.specs.Bundles.{HasBound}
use Rattle.shape_sizes.specs.Referring.{IsReferredBy}
use Rattle.shape_sizes.proofs.referring.push_all_direct.Given as goal

abbrev pub invariant-loop-triple : goal.invariant-loop-triple
invariant-loop-triple l = HasBound (IsReferredBy l.graph) (take l.triple-index l.triple-items) l.fn.bundles l.bundles
