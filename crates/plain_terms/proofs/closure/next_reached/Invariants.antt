use Rattle.std.proofs.Common.{take}
use Rattle.std.specs.List.{Contains}
use Rattle.plain_terms.specs.Pairs.{LeadsFurther}
use Rattle.plain_terms.specs.declared.relation.Pair.{Pair}
use Rattle.plain_terms.proofs.closure.next_reached.Given as goal

abbrev pub invariant-loop-pair : goal.invariant-loop-pair
invariant-loop-pair l = (a : Pair) → Contains (take l.pair-index l.pairs) a → LeadsFurther l.nodes a → ⊥
