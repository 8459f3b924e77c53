-- Counts of faults and of calls. A count is a number below 2 ^ 64, and stays at the last one.
use Rattle.std.specs.Prelude.{◌≡◌, ℕ, ◌<◌, ◌+◌, ◌-◌, ◌^◌, ◌⊎◌, min, Bool, nat_eq, List}
use Rattle.std.specs.List.{list_any}

-- the count rose, or stands at its last value
abbrev pub Rose : ℕ → ℕ → Type 0
Rose old new = (old < new) ⊎ ((old + 1 ≡ 2 ^ 64) × (new ≡ old))

-- the count after one more
abbrev pub counted : ℕ → ℕ
counted count = min (count + 1) (2 ^ 64 - 1)

-- whether the number of a call is listed
abbrev pub is_listed : List ℕ → ℕ → Bool
is_listed numbers number = list_any (λ listed. nat_eq listed number) numbers
