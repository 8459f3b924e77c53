use Rattle.std.proofs.Common.{take}
use Rattle.shape_references.specs.Bundles.{HasBound}
use Rattle.shape_references.specs.Siblings.{AreUnder}
use Rattle.shape_sizes.proofs.referring.push_all_siblings.Given as goal

abbrev pub invariant-loop-parent : goal.invariant-loop-parent
invariant-loop-parent l = HasBound (AreUnder l.graph) (take l.parent-index l.parents) l.fn.bundles l.bundles
