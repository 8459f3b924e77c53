use Rattle.std.proofs.Common.{take}
use Rattle.plain_validation.specs.Patterns.{AreTaken}
use Rattle.plain_validation.proofs.patterns.patterns_of.Given as goal

abbrev pub invariant-loop-shape : goal.invariant-loop-shape
invariant-loop-shape l = AreTaken l.shapes (take l.shape-index l.shapes) l.found.items
