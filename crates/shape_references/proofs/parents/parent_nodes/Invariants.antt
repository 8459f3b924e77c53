use Rattle.std.proofs.Common.{take, []}
use Rattle.shape_syntax.specs.Gathering.{HasGathered}
use Rattle.shape_references.specs.Siblings.{IsParentBy}
use Rattle.shape_references.proofs.parents.parent_nodes.Given as goal

abbrev pub invariant-loop-triple : goal.invariant-loop-triple
invariant-loop-triple l = HasGathered IsParentBy (take l.triple-index l.triple-items) [] l.parents
