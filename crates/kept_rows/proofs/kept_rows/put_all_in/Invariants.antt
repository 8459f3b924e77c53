use Rattle.std.proofs.Common.{◌≡◌, drop}
use Rattle.kept_rows.specs.Merging.{with_checked}
use Rattle.kept_rows.proofs.kept_rows.put_all_in.Given as goal

abbrev pub invariant-loop-pair : goal.invariant-loop-pair
invariant-loop-pair l = with_checked (drop l.pair-index l.checked) l.rows ≡ with_checked l.checked l.fn.rows
