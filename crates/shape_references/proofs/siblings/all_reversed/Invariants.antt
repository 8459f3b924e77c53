use Rattle.std.proofs.Common.{take, []}
use Rattle.shape_syntax.specs.Gathering.{HasGathered}
use Rattle.shape_references.specs.Siblings.{IsReverseOf}
use Rattle.shape_references.proofs.siblings.all_reversed.Given as goal

abbrev pub invariant-loop-triple : goal.invariant-loop-triple
invariant-loop-triple l = HasGathered IsReverseOf (take l.triple-index l.graph) [] l.reversed
