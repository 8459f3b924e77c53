use Rattle.std.proofs.Common.{length}
use Rattle.kept_validation.proofs.Keeping.{AreGiven}
use Rattle.kept_validation.proofs.whole.with_pair.Given as goal

abbrev pub invariant-loop-row : goal.invariant-loop-row
invariant-loop-row l = AreGiven l.fn.shape l.fn.focus l.fn.rows.items l.kept.items l.rest.items

abbrev pub decreases-loop-row : goal.decreases-loop-row
decreases-loop-row l = length l.rest.items
