use Rattle.std.proofs.Common.{◌≡◌, ◌<◌, ℕ, false, get_or}
use Rattle.shape_references.proofs.marks.has_mark.Given as goal

abbrev pub invariant-loop-mark : goal.invariant-loop-mark
invariant-loop-mark l = (i : ℕ) → i < l.mark-index → get_or l.marks i false ≡ false
