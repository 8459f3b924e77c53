-- Kept results without those of a pair, and with them; not seen by any caller.
use Rattle.std.specs.Prelude.{ℕ, Bool, not, List, [], ◌∷◌, filter}
use Rattle.std.specs.declared.cmp.Ordering.{Ordering}
use Rattle.std.specs.Ordering.{is_eq, nat_cmp, ordering_then}
use Rattle.collections.specs.Ordered.{with_item, without_item}
use Rattle.shape_model.specs.declared.result_row.ResultRow.{ResultRow}
use Rattle.kept_rows.specs.declared.kept_row.KeptRow.{KeptRow}
use Rattle.kept_rows.specs.declared.pair_rows.PairRows.{PairRows}
use Rattle.kept_rows.specs.Kept.{kept_cmp}

-- the numbers of a pair
abbrev pub pair_of : PairRows → ℕ × ℕ
pair_of c = (c.shape, c.focus)

-- how a row stands to those of a pair
abbrev pub pair_cmp : ℕ × ℕ → KeptRow → Ordering
pair_cmp e k = ordering_then (nat_cmp k.shape e.0) (nat_cmp k.focus e.1)

abbrev pub is_of : ℕ × ℕ → KeptRow → Bool
is_of e k = is_eq (pair_cmp e k)

abbrev pub without_pair : ℕ × ℕ → List KeptRow → List KeptRow
without_pair e ks = filter (λ k. not (is_of e k)) ks

abbrev pub without_each : List KeptRow → List KeptRow → List KeptRow
without_each [] ks = ks
without_each (x ∷ xs) ks = without_each xs (without_item kept_cmp x ks)

abbrev pub with_rows : ℕ × ℕ → List ResultRow → List KeptRow → List KeptRow
with_rows e [] ks = ks
with_rows e (r ∷ rs) ks = with_rows e rs (with_item kept_cmp (record { shape = e.0; focus = e.1; row = r }) ks)

abbrev pub without_checked : List PairRows → List KeptRow → List KeptRow
without_checked [] ks = ks
without_checked (c ∷ cs) ks = without_checked cs (without_pair (pair_of c) ks)

abbrev pub with_checked : List PairRows → List KeptRow → List KeptRow
with_checked [] ks = ks
with_checked (c ∷ cs) ks = with_checked cs (with_rows (pair_of c) c.rows ks)
