use Rattle.std.proofs.Common.{◌-◌, length}
use Rattle.reference_totals.specs.Numbers.{AreIndices}
use Rattle.reference_totals.proofs.Numbered.{HaveNumbersFrom}
use Rattle.reference_totals.proofs.numbers.numbers_of.Given as goal

abbrev pub invariant-loop-count : goal.invariant-loop-count
invariant-loop-count l = AreIndices l.places l.numbers × HaveNumbersFrom (length l.places - l.count) l.places l.numbers
