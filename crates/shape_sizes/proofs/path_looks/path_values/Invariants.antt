use Rattle.std.proofs.Common.{take, []}
use Rattle.shape_syntax.specs.Gathering.{HasGathered}
use Rattle.shape_sizes.proofs.PathPlaces.{IsPathValueOf}
use Rattle.shape_sizes.proofs.path_looks.path_values.Given as goal

abbrev pub invariant-loop-triple : goal.invariant-loop-triple
invariant-loop-triple l = HasGathered IsPathValueOf (take l.triple-index l.triple-items) [] l.nodes
