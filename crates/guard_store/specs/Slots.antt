-- What turns pass on: the core, and its log where it has one.
use Rattle.std.specs.Prelude.{◌≡◌, ℕ, ◌≤◌, true, false, List, Option, Some, None}
use Rattle.disk.specs.Crashes.{EachCrash, History, Moment}
use Rattle.disk.specs.Faults.{Rose}
use Rattle.commit_log.specs.Format.{Opens}
use Rattle.commit_log.specs.Log.{LogState}
use Rattle.record_text.specs.declared.record.Record.{Record}
use Rattle.store_model.specs.declared.event.Limits.{Limits}
use Rattle.store_model.specs.Store.{RecordedStore, State}
use Rattle.commit_core.specs.Logged.{IsBeside, IsInStep}

-- what the disk of a log told as its store began: what a read gave, the moment that it was at, its name, and its count of faults
pub record LogOrigin : Type 0 where
  pub bytes : List ℕ
  pub moment : Moment
  pub chosen : Option (List ℕ)
  pub count : ℕ

-- what stays of a store while turns change it: its limits, and the state and the log that it began with
pub record Origin : Type 0 where
  pub limits : Limits
  pub start : State
  pub log : Option LogOrigin

module _ {D : Type 0} (bytes : D → List ℕ) (history : D → History) (chosen : D → Option (List ℕ)) (faults : D → ℕ) where
  abbrev pub log_origin : Option (LogState D) → Option LogOrigin
  log_origin None = None
  log_origin (Some log) = Some (record { bytes = bytes log.disk; moment = (history log.disk).now; chosen = chosen log.disk; count = faults log.disk })

-- the log had these records then: each crash left them, and a read gave them
pub record HadRecords (tells : Type 0) (origin : LogOrigin) (base : List Record) : Type 0 where
  pub lasts : tells → EachCrash (λ image. Opens image base) origin.moment
  pub shows : tells → Opens origin.bytes base

-- The log is that of the core: whatever records it had as the store began, it has these and the commits since. The store is
-- stopped only where the disk's faults rose since then; they never fall, and the disk keeps its name.
pub record IsLogOf {D : Type 0} (tells : Type 0) (bytes : D → List ℕ) (history : D → History) (chosen : D → Option (List ℕ)) (faults : D → ℕ) (origin : LogOrigin) (core : RecordedStore) (log : LogState D) : Type 0 where
  pub beside : IsBeside core log
  pub step : (base : List Record) → HadRecords tells origin base → IsInStep tells bytes history base core log
  pub blamed : core.state.stopped ≡ true → Rose origin.count (faults log.disk)
  pub risen : origin.count ≤ faults log.disk
  pub name : chosen log.disk ≡ origin.chosen

-- A core has its log still, if the store began with one. Without a log it isn't stopped.
abbrev pub HasItsLog : {D : Type 0} → Type 0 → (D → List ℕ) → (D → History) → (D → Option (List ℕ)) → (D → ℕ) → Option LogOrigin → RecordedStore → Option (LogState D) → Type 0
HasItsLog tells bytes history chosen faults None core None = core.state.stopped ≡ false
HasItsLog tells bytes history chosen faults (Some origin) core (Some log) = IsLogOf tells bytes history chosen faults origin core log
HasItsLog tells bytes history chosen faults None core (Some log) = ⊥
HasItsLog tells bytes history chosen faults (Some origin) core None = ⊥

-- the core, its log, and what the log's disk told at first
pub record SlotState (D : Type 0) : Type 0 where
  pub core : RecordedStore
  pub log : Option (LogState D)
  pub origin : Option LogOrigin
