use Rattle.std.proofs.Common.{◌≡◌, ◌∷◌, ◌++◌}
use Rattle.std.specs.Prelude.{Some, filter}
use Rattle.collections.specs.Ordered.{IsAscending}
use Rattle.page_index.specs.Reading.{keys_above}
use Rattle.kept_rows.specs.Kept.{kept_cmp}
use Rattle.kept_rows.specs.Merging.{is_of}
use Rattle.kept_rows.proofs.pair.add_from.Given as goal

abbrev pub invariant-loop-row : goal.invariant-loop-row
invariant-loop-row l = record {
  rest : l.into.items ++ filter (is_of l.pair) l.row-iterator ≡ l.fn.into.items ++ filter (is_of l.pair) (l.start ∷ keys_above kept_cmp (Some l.start) l.rows);
  ascending : IsAscending kept_cmp (l.start ∷ l.row-iterator);
}
