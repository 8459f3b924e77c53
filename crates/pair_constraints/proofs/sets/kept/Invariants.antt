use Rattle.pair_constraints.proofs.Values.{Kept}
use Rattle.pair_constraints.proofs.sets.kept.Given as goal

abbrev pub invariant-loop-number : goal.invariant-loop-number
invariant-loop-number l = Kept l.numbers l.others l.is_wanted l.number-index l.found.items
