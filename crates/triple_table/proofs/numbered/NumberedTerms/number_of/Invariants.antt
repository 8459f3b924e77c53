use Rattle.triple_table.specs.Tables.{IsLeft}
use Rattle.triple_table.proofs.Found.{left_count}
use Rattle.triple_table.proofs.numbered.NumberedTerms.number_of.Given as goal

abbrev pub invariant-loop-next : goal.invariant-loop-next
invariant-loop-next l = IsLeft l.self l.term l.next

abbrev pub decreases-loop-next : goal.decreases-loop-next
decreases-loop-next l = left_count l.next
