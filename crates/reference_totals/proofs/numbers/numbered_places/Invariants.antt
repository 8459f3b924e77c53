use Rattle.std.proofs.Common.{take}
use Rattle.std.specs.List.{AllZip}
use Rattle.reference_totals.specs.Numbers.{IsNumbered}
use Rattle.reference_totals.proofs.numbers.numbered_places.Given as goal

abbrev pub invariant-loop-place : goal.invariant-loop-place
invariant-loop-place l = AllZip (IsNumbered l.numbers) (take l.place-index l.places) l.numbered
