-- The forms in memory. Their calls have numbers, the first one 1, and those whose numbers are listed fail.
use Rattle.std.specs.Prelude.{◌≡◌, ℕ, ◌<◌, ◌-◌, ◌⊎◌, min, List, [], ◌∷◌, ◌++◌, Option, Some, None, Result, Ok, Err, true, false, if◌then◌else◌, nat_eq, string_bytes, length, take, Vec}
use Rattle.std.specs.Global.{Global}
use lib.Pointwise.{pointwise}
use Rattle.regex.specs.declared.string.regex.Regex.{Regex}
use Rattle.outside.specs.Counts.{counted, is_listed}
use Rattle.outside.specs.Faults.{Refusal, Request}
use Rattle.outside.specs.declared.files.LoadFault.{LoadFault}
use Rattle.outside.specs.declared.files.LoadFault.TheVariants as load
use Rattle.outside.specs.declared.maker.MakeFault.{MakeFault}
use Rattle.outside.specs.declared.maker.MakeFault.TheVariants as make
use Rattle.outside.specs.declared.sink.Failed.{Failed}
use Rattle.outside.specs.declared.mem_files.MemFile.{MemFile}

-- the bytes of the first file of this name
abbrev pub content : List MemFile → List ℕ → Option (List ℕ)
content [] name = None
content (f ∷ fs) name = if pointwise nat_eq (string_bytes f.name) name then Some f.bytes.items else content fs name

-- files in memory, the numbers of the calls that fail, how many calls there were, and the names of the loads and of
-- those that failed
pub record FilesState : Type 0 where
  pub files : List MemFile
  pub fail : List ℕ
  pub calls : ℕ
  pub loaded : List (List ℕ)
  pub failed : List (List ℕ)

-- the files of the system: the names of the loads, and of those that failed
pub record HostState : Type 0 where
  pub loaded : List (List ℕ)
  pub failed : List (List ℕ)

-- A load, by the files after it, whose calls give its number. It gives bytes only where the number isn't listed, and
-- fails only where it is or where no file has the name.
abbrev pub LoadsInMemory : FilesState → List ℕ → Result (Vec ℕ Global) LoadFault → Type 0
LoadsInMemory new name (Ok bytes) = is_listed new.fail new.calls ≡ false
LoadsInMemory new name (Err load.Failed) = (is_listed new.fail new.calls ≡ true) ⊎ (content new.files name ≡ None)
LoadsInMemory new name (Err load.Memory) = Unit {0}

-- a sink in memory: what it took and its faults, how much it takes of one piece and in all, and its calls
pub record SinkState : Type 0 where
  pub taken : List ℕ
  pub faults : ℕ
  pub most : ℕ
  pub room : ℕ
  pub fail : List ℕ
  pub calls : ℕ

-- how much room is left
abbrev pub room_left : SinkState → ℕ
room_left s = s.room - length s.taken

-- A write takes as much as the piece, the most of one call and the room allow. It fails only where its number is
-- listed, or where no room is left for a piece that isn't empty.
abbrev pub WritesInMemory : SinkState → List ℕ → Result ℕ Failed → SinkState → Type 0
WritesInMemory old piece (Ok n) new =
    (is_listed old.fail new.calls ≡ false) × (n ≡ min (min old.most (length piece)) (room_left old))
    × (0 < length piece → 0 < n)
    × (new ≡ record old { taken = old.taken ++ take n piece; calls = counted old.calls })
WritesInMemory old piece (Err failed) new =
    ((is_listed old.fail new.calls ≡ true) ⊎ ((room_left old ≡ 0) × (0 < length piece)))
    × (new ≡ record old { faults = counted old.faults; calls = counted old.calls })

-- the maker of the system: what it was asked, and what it refused
pub record MakerState : Type 0 where
  pub asked : List Request
  pub refused : List Refusal

-- a maker over another one, the numbers of the calls that are refused, how many calls there were, what it was asked and
-- what was refused
pub record FakeState (M : Type 0) : Type 0 where
  pub maker : M
  pub refuse : List ℕ
  pub calls : ℕ
  pub asked : List Request
  pub refused : List Refusal

-- a call whose number is listed is refused, and any other one has the answer of the maker below, whose list a refusal
-- joins too
abbrev pub BuildsOver : {M : Type 0} → (M → List Refusal) → (M → List ℕ → List ℕ → Result Regex MakeFault → M → Type 0) →
    FakeState M → List ℕ → List ℕ → Result Regex MakeFault → FakeState M → Type 0
BuildsOver refused gives old pattern flags (Ok regex) new =
    (is_listed old.refuse new.calls ≡ false) × gives old.maker pattern flags (Ok regex) new.maker
BuildsOver refused gives old pattern flags (Err make.Refused) new =
    ((is_listed old.refuse new.calls ≡ true) × (new.maker ≡ old.maker))
    ⊎ ((is_listed old.refuse new.calls ≡ false) × (refused new.maker ≡ refused old.maker ++ (pattern, flags) ∷ [])
    × gives old.maker pattern flags (Err make.Refused) new.maker)
BuildsOver refused gives old pattern flags (Err make.Memory) new = Unit {0}
