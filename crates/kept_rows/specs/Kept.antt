-- Results that are kept with the pairs that give them.
use Rattle.std.specs.Prelude.{◌≡◌, ◌↔◌, ◌⊎◌, List}
use Rattle.std.specs.List.{Contains}
use Rattle.std.specs.declared.cmp.Ordering.{Ordering}
use Rattle.std.specs.Ordering.{nat_cmp, ordering_then}
use Rattle.shape_model.specs.Rows.{result_row_cmp}
use Rattle.shape_model.specs.declared.result_row.ResultRow.{ResultRow}
use Rattle.kept_rows.specs.declared.kept_row.KeptRow.{KeptRow}
use Rattle.kept_rows.specs.declared.pair_rows.PairRows.{PairRows}

-- by shape, focus node and result
abbrev pub kept_cmp : KeptRow → KeptRow → Ordering
kept_cmp a b = ordering_then (nat_cmp a.shape b.shape) (ordering_then (nat_cmp a.focus b.focus) (result_row_cmp a.row b.row))

-- the pair of the row is among those that were checked
abbrev pub IsOfChecked : List PairRows → KeptRow → Type 0
IsOfChecked checked k = (c : PairRows) × Contains checked c × (c.shape ≡ k.shape) × (c.focus ≡ k.focus)

-- its pair was checked, and has its result
abbrev pub IsFoundBy : List PairRows → KeptRow → Type 0
IsFoundBy checked k = (c : PairRows) × Contains checked c × (c.shape ≡ k.shape) × (c.focus ≡ k.focus) × Contains c.rows k.row

-- The rows of pairs that weren't checked stay, and those of checked pairs are what was found.
abbrev pub Merges : List KeptRow → List PairRows → List KeptRow → Type 0
Merges old checked new = (k : KeptRow) → Contains new k ↔ ((Contains old k × (IsOfChecked checked k → ⊥)) ⊎ IsFoundBy checked k)

-- the results alone
abbrev pub IsRowOf : List KeptRow → ResultRow → Type 0
IsRowOf kept r = (k : KeptRow) × Contains kept k × (k.row ≡ r)
