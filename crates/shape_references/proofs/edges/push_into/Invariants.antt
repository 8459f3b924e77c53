use Rattle.std.proofs.Common.{take}
use Rattle.shape_syntax.specs.Gathering.{HasGathered}
use Rattle.shape_references.specs.Bundles.{IsInto}
use Rattle.shape_references.proofs.edges.push_into.Given as goal

abbrev pub invariant-loop-node : goal.invariant-loop-node
invariant-loop-node l = HasGathered (IsInto l.nodes l.place) (take l.node-index l.from) l.fn.edges l.edges
