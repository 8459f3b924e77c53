-- Numbers that a bound forbids (SHACL 4.2, 4.4.1, 4.4.2 and 4.7.3).
use Rattle.std.specs.Prelude.{◌≡◌, ℕ, ℤ, pos, int_lt, true, Option, Some}
use Rattle.component_rows.specs.declared.bound.End.{End}
use Rattle.component_rows.specs.declared.bound.End.TheVariants.{Least, Most}

-- so many are fewer, are more than the count; there may be none
abbrev pub IsWrong : End → Option ℤ → ℕ → Type 0
IsWrong Least count n = (k : ℤ) × (count ≡ Some k) × (int_lt (pos n) k ≡ true)
IsWrong Most count n = (k : ℤ) × (count ≡ Some k) × (int_lt k (pos n) ≡ true)
