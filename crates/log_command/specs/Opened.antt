-- What the disk of a log gives, and why it gives none.
use Rattle.std.specs.Prelude.{◌≡◌, ◌⊎◌, ℕ, ◌<◌, List, [], length, Some}
use Rattle.disk.specs.Crashes.{EachCrash, History}
use Rattle.record_text.specs.declared.record.Record.{Record}
use Rattle.outside.specs.Faults.{Refusal}
use Rattle.store_model.specs.declared.event.Limits.{Limits}
use Rattle.store_model.specs.Store.{RecordedStore}
use Rattle.commit_log.specs.Bad.{IsBad}
use Rattle.commit_log.specs.Format.{AreRecordsFrom, Opens}
use Rattle.commit_log.specs.Log.{LogState}
use Rattle.commit_log.specs.declared.log.OpenLogFault.{OpenLogFault}
use Rattle.commit_log.specs.declared.log.OpenLogFault.TheVariants as opening
use Rattle.commit_core.specs.Logged.{IsInStep}
use Rattle.log_command.specs.declared.fault.CreateLogFault.{CreateLogFault}
use Rattle.log_command.specs.declared.fault.CreateLogFault.TheVariants as create
use Rattle.log_command.specs.declared.fault.LogFault.{LogFault}
use Rattle.log_command.specs.declared.fault.LogFault.TheVariants.{ReadFault, BadLog, Spent, Pattern, TooLarge, Memory}
use Rattle.log_command.specs.Devices.{Device, IsBlamed}
use Rattle.log_command.specs.Restoring.{AreRestored, StopsRestore}

-- records that can be read, of which the bytes are a log where the disk tells them
pub record AreFound (tells : Type 0) (bytes : List ℕ) (records : List Record) : Type 0 where
  pub numbered : AreRecordsFrom 1 records
  pub opens : tells → Opens bytes records

-- The log of the bytes, with the store that its records restore: it is in step with the log, which has no other record. So
-- many sessions begin to number their blank nodes at these numbers.
pub record IsStored {D : Type 0} (tells : Type 0) (bytes : D → List ℕ) (history : D → History) (l : Limits) (disk : D) (sessions : ℕ) (core : RecordedStore) (log : LogState D) (first : List ℕ) : Type 0 where
  pub records : List Record
  pub found : AreFound tells (bytes disk) records
  pub are_restored : AreRestored l records sessions core first
  pub step : IsInStep tells bytes history records core log

-- the bytes are a log of records that restore no store
abbrev pub HaveFault : Type 0 → List ℕ → Limits → List Refusal → List Refusal → LogFault → Type 0
HaveFault tells bytes l old new fault = (records : List Record) × AreFound tells bytes records × StopsRestore l records old new fault

-- Why nothing was opened: the disk failed; or the bytes are no log, for which this record is to blame; or the records restore
-- no store.
abbrev pub StopsLog : Type 0 → List ℕ → Limits → List Refusal → List Refusal → LogFault → Type 0
StopsLog tells bytes l old new ReadFault = new ≡ old
StopsLog tells bytes l old new (BadLog number) = ((tells → IsBad bytes number) × (new ≡ old)) ⊎ HaveFault tells bytes l old new (BadLog number)
StopsLog tells bytes l old new Spent = HaveFault tells bytes l old new Spent
StopsLog tells bytes l old new (Pattern node) = HaveFault tells bytes l old new (Pattern node)
StopsLog tells bytes l old new TooLarge = HaveFault tells bytes l old new TooLarge
StopsLog tells bytes l old new Memory = new ≡ old

-- the disk is to blame where it couldn't be read, and was chosen unless memory ran out
abbrev pub BlamesDisk : List ℕ → Device → Device → LogFault → Type 0
BlamesDisk name was is ReadFault = IsBlamed name was is
BlamesDisk name was is (BadLog number) = is.chosen ≡ Some name
BlamesDisk name was is Spent = is.chosen ≡ Some name
BlamesDisk name was is (Pattern node) = is.chosen ≡ Some name
BlamesDisk name was is TooLarge = is.chosen ≡ Some name
BlamesDisk name was is Memory = Unit {0}

-- the disk was empty, and each crash leaves a log without a record
pub record IsMade (tells : Type 0) (name : List ℕ) (was is : Device) : Type 0 where
  pub empty : tells → was.bytes ≡ []
  pub opens : tells → Opens is.bytes []
  pub lasts : tells → EachCrash (λ image. Opens image []) is.history.now
  pub chosen_is : is.chosen ≡ Some name

-- Why no log was made: the disk failed, or has bytes, which stay.
abbrev pub StopsCreation : Type 0 → List ℕ → Device → Device → CreateLogFault → Type 0
StopsCreation tells name was is create.ReadFault = IsBlamed name was is
StopsCreation tells name was is create.NotEmpty = (tells → (0 < length was.bytes) × (is.bytes ≡ was.bytes) × (is.history ≡ was.history)) × (is.chosen ≡ Some name)
StopsCreation tells name was is create.Memory = tells → (is.bytes ≡ was.bytes) × (is.history ≡ was.history)

-- a fault of opening, as one of the log; not seen by any caller
abbrev pub of_open : OpenLogFault → LogFault
of_open (opening.BadLog number) = BadLog number
of_open opening.Failed = ReadFault
of_open opening.Memory = Memory
