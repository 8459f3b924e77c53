use Rattle.std.proofs.Common.{◌≡◌, drop}
use Rattle.kept_rows.specs.Merging.{without_checked}
use Rattle.kept_rows.proofs.kept_rows.take_all_out.Given as goal

abbrev pub invariant-loop-pair : goal.invariant-loop-pair
invariant-loop-pair l = without_checked (drop l.pair-index l.checked) l.rows ≡ without_checked l.checked l.fn.rows
