use Rattle.reference_totals.proofs.TotalSums.{one_total}
use Rattle.reference_totals.proofs.laws.totals_are_unique.Goals as goal

pub returns : goal.returns
returns c = one_total
