use Rattle.std.proofs.Common.{◌≡◌, take}
use Rattle.term_dict.proofs.table.met_again.Given as goal

abbrev pub invariant-loop-number : goal.invariant-loop-number
invariant-loop-number l = l.met ≡ take l.number l.table
