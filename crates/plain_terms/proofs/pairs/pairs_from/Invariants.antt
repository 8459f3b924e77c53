use Rattle.std.proofs.Common.{◌≡◌, take}
use Rattle.plain_terms.specs.Finds.{Finds, WithSome}
use Rattle.plain_terms.specs.declared.relation.Pair.{Pair}
use Rattle.plain_terms.proofs.pairs.pairs_from.Given as goal

abbrev pub invariant-loop-to : goal.invariant-loop-to
invariant-loop-to l = Finds (WithSome (take l.to-index l.ends) (λ to (pair : Pair). pair ≡ record { from = l.from; to = to })) l.pairs.items
