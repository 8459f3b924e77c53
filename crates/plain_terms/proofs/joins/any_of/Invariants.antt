use Rattle.std.proofs.Common.{take}
use Rattle.plain_terms.specs.Relations.{JoinsSomehow, Means}
use Rattle.plain_terms.proofs.joins.any_of.Given as goal

abbrev pub invariant-loop-relation : goal.invariant-loop-relation
invariant-loop-relation l = Means (JoinsSomehow (take l.relation-index l.relations)) l.found
