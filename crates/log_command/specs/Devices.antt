-- What is seen of the disk of a log.
use Rattle.std.specs.Prelude.{◌≡◌, ℕ, ◌≤◌, List, Option, Some}
use Rattle.disk.specs.Crashes.{History}
use Rattle.disk.specs.Faults.{Rose}

-- what a read gives and the moments so far, where they are told; the name by which it was chosen; how many faults there were
pub record Device : Type 0 where
  pub bytes : List ℕ
  pub history : History
  pub chosen : Option (List ℕ)
  pub faults : ℕ

abbrev pub seen : {D : Type 0} → (D → List ℕ) → (D → History) → (D → Option (List ℕ)) → (D → ℕ) → D → Device
seen bytes history chosen faults disk = record { bytes = bytes disk; history = history disk; chosen = chosen disk; faults = faults disk }

-- a read gives the same, and the count of faults hasn't fallen
pub record IsKept (tells : Type 0) (was is : Device) : Type 0 where
  pub bytes_are : tells → is.bytes ≡ was.bytes
  pub count : was.faults ≤ is.faults

-- the disk failed, which was chosen by this name
pub record IsBlamed (name : List ℕ) (was is : Device) : Type 0 where
  pub rose : Rose was.faults is.faults
  pub chosen_is : is.chosen ≡ Some name
