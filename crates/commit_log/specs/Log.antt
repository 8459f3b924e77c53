-- A log on a disk.
use Rattle.std.specs.Prelude.{◌≡◌, ◌⊎◌, ℕ, ◌+◌, ◌<◌, ◌≤◌, ◌^◌, List, [], ◌∷◌, ◌++◌, length, Bool, true, false, Option, Result, Ok, Err}
use Rattle.std.specs.List.{AllByRecursion}
use Rattle.disk.specs.Crashes.{Moment, History, Leaves, settled}
use Rattle.disk.specs.Faults.{Rose}
use Rattle.record_text.specs.declared.record.Record.{Record}
use Rattle.commit_log.specs.Format.{Entry, IsOpened, front, Opens}
use Rattle.commit_log.specs.Bad.{IsBad}
use Rattle.commit_log.specs.declared.log.CreateFault.{CreateFault}
use Rattle.commit_log.specs.declared.log.CreateFault.TheVariants as create
use Rattle.commit_log.specs.declared.log.OpenLogFault.{OpenLogFault}
use Rattle.commit_log.specs.declared.log.OpenLogFault.TheVariants as fault
use Rattle.commit_log.specs.declared.log.AppendFault.{AppendFault}
use Rattle.commit_log.specs.declared.log.AppendFault.TheVariants.{Closed, Failed, Memory}

-- a disk, the place of the log's closed gate, how many records it has, and whether an append failed
pub record LogState (D : Type 0) : Type 0 where
  pub disk : D
  pub end : ℕ
  pub count : ℕ
  pub closed : Bool

-- the bytes are a log of so many records whose closed gate stands at `end`, and all of them are durable
pub record IsSettled (bytes : List ℕ) (now : Moment) (end count : ℕ) : Type 0 where
  pub entries : List Entry
  pub opened : AllByRecursion IsOpened entries
  pub rest : List ℕ
  pub whole : bytes ≡ front entries ++ 0 ∷ rest
  pub end_is : end ≡ length (front entries)
  pub count_is : count ≡ length entries
  pub durable : now ≡ settled bytes

-- what a log keeps: until an append failed, its disk is settled where it tells its bytes
pub record IsLog {D : Type 0} (tells : Type 0) (bytes : D → List ℕ) (history : D → History) (disk : D) (end count : ℕ) (closed : Bool) : Type 0 where
  pub bound : end < 2 ^ 63
  pub is_settled : closed ≡ false → tells → IsSettled (bytes disk) (history disk).now end count

-- the same disk later: its name is the same, and its count of faults hasn't fallen
pub record IsSameLater {D : Type 0} (chosen : D → Option (List ℕ)) (faults : D → ℕ) (old new : D) : Type 0 where
  pub name : chosen new ≡ chosen old
  pub count : faults old ≤ faults new

-- the image opens to these records, or to these and the new one
abbrev pub OpensOneOf : List Record → Record → List ℕ → Type 0
OpensOneOf records new image = Opens image records ⊎ Opens image (records ++ new ∷ [])

-- what a crash could leave before, or what a read gives
abbrev pub LeftOrRead : Moment → List ℕ → List ℕ → Type 0
LeftOrRead before bytes image = Leaves before image ⊎ (image ≡ bytes)

-- The log by the answer of an append, and the count of its disk's faults.
abbrev pub Appends : {D : Type 0} → (D → ℕ) → LogState D → Result (Unit {0}) AppendFault → LogState D → Type 0
Appends faults old (Ok u) new = (old.closed ≡ false) × (new.closed ≡ false) × (new.count ≡ old.count + 1)
Appends faults old (Err Closed) new = (old.closed ≡ true) × (new ≡ old)
Appends faults old (Err Failed) new = (old.closed ≡ false) × (new.closed ≡ true) × (new.count ≡ old.count) × Rose (faults old.disk) (faults new.disk)
Appends faults old (Err Memory) new = (old.closed ≡ false) × (new ≡ old)

-- why the bytes of a disk weren't opened
abbrev pub RefusesOpen : List ℕ → OpenLogFault → Type 0
RefusesOpen bytes (fault.BadLog number) = IsBad bytes number
RefusesOpen bytes fault.Failed = Unit {0}
RefusesOpen bytes fault.Memory = Unit {0}

-- why no log was made on a disk
abbrev pub IsNotCreated : {D : Type 0} → Type 0 → (D → List ℕ) → (D → History) → (D → ℕ) → D → D → CreateFault → Type 0
IsNotCreated tells bytes history faults old new create.NotEmpty = tells → (0 < length (bytes old)) × (bytes new ≡ bytes old) × (history new ≡ history old)
IsNotCreated tells bytes history faults old new create.Failed = Rose (faults old) (faults new)
