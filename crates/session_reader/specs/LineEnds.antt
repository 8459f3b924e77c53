-- The end of a line.
use Rattle.std.specs.Prelude.{ℕ, ◌-◌, ◌&&◌, List, length, take, nat_lt, ◌==◌, if◌then◌else◌, slice_index}

-- a line without a CR at its end
abbrev pub without_cr : List ℕ → List ℕ
without_cr line = if nat_lt 0 (length line) && slice_index line (length line - 1) == 13 then take (length line - 1) line else line
