use Rattle.std.proofs.Common.{◌≡◌, drop}
use Rattle.kept_rows.specs.Merging.{without_each, without_pair}
use Rattle.kept_rows.proofs.pair.take_out.Given as goal

abbrev pub invariant-loop-row : goal.invariant-loop-row
invariant-loop-row l = without_each (drop l.row-index l.row-items) l.rows ≡ without_pair l.fn.pair l.fn.rows
