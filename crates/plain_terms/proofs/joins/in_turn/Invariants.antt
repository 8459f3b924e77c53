use Rattle.std.proofs.Common.{take}
use Rattle.plain_terms.specs.Relations.{JoinsInTurn, Means}
use Rattle.plain_terms.proofs.joins.in_turn.Given as goal

abbrev pub invariant-loop-relation : goal.invariant-loop-relation
invariant-loop-relation l = Means (JoinsInTurn (take l.relation-index l.relations)) l.found
