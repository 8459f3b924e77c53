use Rattle.std.proofs.Common.{◌≡◌, ◌+◌, ℕ, take, Some}
use Rattle.reference_totals.specs.Totals.{SumBy, capped}
use Rattle.reference_totals.specs.Rounds.{total_in}
use Rattle.reference_totals.proofs.sums.shown_total.Given as goal

abbrev pub invariant-loop-number : goal.invariant-loop-number
invariant-loop-number l = (k : ℕ) × SumBy (λ j a. total_in l.known j ≡ Some a) (take l.number-index l.place.to) k × (l.sum ≡ capped l.most (l.place.own + k))
