use Rattle.std.proofs.Common.{take}
use Rattle.plain_terms.specs.Finds.{Finds, WithSome}
use Rattle.plain_terms.specs.Pairs.{Linked}
use Rattle.plain_terms.proofs.pairs.pairs_through.Given as goal

abbrev pub invariant-loop-pair : goal.invariant-loop-pair
invariant-loop-pair l = Finds (WithSome (take l.pair-index l.pairs) (λ a. WithSome l.others (Linked a))) l.found.items
