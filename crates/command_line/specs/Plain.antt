-- How the decimals of numbers from 1 on begin.
use Rattle.std.specs.Prelude.{ℕ, Bool, not, ◌&&◌, ◌==◌, List, length, nat_lt, slice_index}

abbrev pub begins_plainly : List ℕ → Bool
begins_plainly text = nat_lt 0 (length text) && not (slice_index text 0 == 48) && not (slice_index text 0 == 43)
