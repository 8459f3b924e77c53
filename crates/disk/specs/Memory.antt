-- The disk in memory, and what is known of the disk of the system.
use Rattle.std.specs.Prelude.{ℕ, List, Option}
use Rattle.disk.specs.Crashes.{History}

-- its bytes, the name by which it was chosen, its moments, the numbers of the calls that fail, how many bytes of a piece a write
-- that fails puts, how many calls and how many faults there were
pub record MemState : Type 0 where
  pub bytes : List ℕ
  pub chosen : Option (List ℕ)
  pub history : History
  pub fail : List ℕ
  pub short : ℕ
  pub calls : ℕ
  pub faults : ℕ

-- the name by which it was chosen, and how many faults there were
pub record HostState : Type 0 where
  pub chosen : Option (List ℕ)
  pub faults : ℕ
