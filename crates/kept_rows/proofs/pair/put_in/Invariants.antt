use Rattle.std.proofs.Common.{◌≡◌, drop}
use Rattle.kept_rows.specs.Merging.{pair_of, with_rows}
use Rattle.kept_rows.proofs.pair.put_in.Given as goal

abbrev pub invariant-loop-row : goal.invariant-loop-row
invariant-loop-row l = with_rows (pair_of l.checked) (drop l.row-index l.checked.rows) l.rows ≡ with_rows (pair_of l.checked) l.checked.rows l.fn.rows
