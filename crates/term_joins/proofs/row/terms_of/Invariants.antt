use Rattle.std.proofs.Common.{◌≡◌, ◌++◌, length, reverse}
use Rattle.term_joins.proofs.row.terms_of.Given as goal

abbrev pub invariant-loop-row : goal.invariant-loop-row
invariant-loop-row l = l.terms.items ++ reverse l.rest.items ≡ l.fn.rows.items

abbrev pub decreases-loop-row : goal.decreases-loop-row
decreases-loop-row l = length l.rest.items
