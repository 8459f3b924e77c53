use Rattle.std.proofs.Common.{[], take}
use Rattle.shape_syntax.specs.Gathering.{HasGathered}
use Rattle.shape_references.specs.Bundles.{IsNodeOf}
use Rattle.shape_references.proofs.names.all_nodes.Given as goal

abbrev pub invariant-loop-bundle : goal.invariant-loop-bundle
invariant-loop-bundle l = HasGathered IsNodeOf (take l.bundle-index l.bundles) [] l.nodes
