use Rattle.std.proofs.Common.{take}
use Rattle.std.specs.List.{Contains}
use Rattle.plain_terms.specs.Finds.{Finds}
use Rattle.plain_terms.proofs.pairs.each_once.Given as goal

abbrev pub invariant-loop-pair : goal.invariant-loop-pair
invariant-loop-pair l = Finds (Contains (take l.pair-index l.pairs)) l.found
