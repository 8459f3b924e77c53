use Rattle.std.proofs.Common.{take}
use Rattle.plain_terms.specs.Finds.{Finds, WithSome}
use Rattle.plain_terms.specs.Pairs.{EndOf}
use Rattle.plain_terms.proofs.pairs.ends_at.Given as goal

abbrev pub invariant-loop-pair : goal.invariant-loop-pair
invariant-loop-pair l = Finds (WithSome (take l.pair-index l.pairs) (EndOf l.node)) l.ends.items
