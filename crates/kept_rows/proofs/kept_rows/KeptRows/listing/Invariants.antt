use Rattle.std.proofs.Common.{◌≡◌, ◌++◌}
use Rattle.std.specs.Prelude.{map}
use Rattle.kept_rows.specs.declared.kept_row.KeptRow.{KeptRow}
use Rattle.kept_rows.proofs.kept_rows.KeptRows.listing.Given as goal

abbrev pub invariant-loop-kept : goal.invariant-loop-kept
invariant-loop-kept l = l.rows.items ++ map (λ (k : KeptRow). k.row) l.kept-iterator ≡ map (λ (k : KeptRow). k.row) l.self
