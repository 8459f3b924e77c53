use Rattle.std.proofs.Common.{take, []}
use Rattle.shape_syntax.specs.Gathering.{HasGathered}
use Rattle.shape_properties.specs.OfProperties.{TakenBy}
use Rattle.shape_properties.proofs.shapes.all_taken.Given as goal

abbrev pub invariant-loop-triple : goal.invariant-loop-triple
invariant-loop-triple l = HasGathered (TakenBy l.graph) (take l.triple-index l.triple-items) [] l.nodes
