-- Faults of a disk are counted. A count is a number below 2 ^ 64, and stays at the last one.
use Rattle.std.specs.Prelude.{◌≡◌, ◌⊎◌, ℕ, ◌+◌, ◌<◌, ◌≤◌, ◌^◌, List, Option, Some, Result, Ok, Err, IsErr, IsErrOf}
use Rattle.disk.specs.declared.device.DiskFault.{DiskFault}
use Rattle.disk.specs.declared.device.DiskFault.TheVariants.{Failed, Memory}

-- the count rose, or stands at its last value
abbrev pub Rose : ℕ → ℕ → Type 0
Rose old new = (old < new) ⊎ ((old + 1 ≡ 2 ^ 64) × (new ≡ old))

-- an error comes only where the count rose
pub record Counts {X E : Type 0} (result : Result X E) (old new : ℕ) : Type 0 where
  pub kept : old ≤ new
  pub failed : IsErr result → Rose old new

-- `Failed` comes only where the count rose
pub record CountsFailed {X : Type 0} (result : Result X DiskFault) (old new : ℕ) : Type 0 where
  pub kept : old ≤ new
  pub failed : IsErrOf result Failed → Rose old new

-- the name by which a disk was chosen, by the answer: it is kept after a fault too, unless memory ran out
abbrev pub Chooses : Result (Unit {0}) DiskFault → Option (List ℕ) → List ℕ → Option (List ℕ) → Type 0
Chooses (Ok u) old name new = new ≡ Some name
Chooses (Err Failed) old name new = new ≡ Some name
Chooses (Err Memory) old name new = new ≡ old
