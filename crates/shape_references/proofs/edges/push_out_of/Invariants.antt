use Rattle.std.proofs.Common.{take}
use Rattle.shape_syntax.specs.Gathering.{HasGathered}
use Rattle.shape_references.specs.Bundles.{IsOutOf}
use Rattle.shape_references.proofs.edges.push_out_of.Given as goal

abbrev pub invariant-loop-node : goal.invariant-loop-node
invariant-loop-node l = HasGathered (IsOutOf l.nodes l.place) (take l.node-index l.to) l.fn.edges l.edges
