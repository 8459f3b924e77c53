use Rattle.std.proofs.Common.{take}
use Rattle.plain_terms.specs.Finds.{Finds, WithSome}
use Rattle.plain_terms.specs.Pairs.{Linked}
use Rattle.plain_terms.proofs.pairs.pairs_after.Given as goal

abbrev pub invariant-loop-other : goal.invariant-loop-other
invariant-loop-other l = Finds (WithSome (take l.other-index l.others) (Linked l.pair)) l.found.items
