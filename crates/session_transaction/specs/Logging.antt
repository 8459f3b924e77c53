-- What a commit does to the log that its core may have.
use Rattle.std.specs.Prelude.{◌≡◌, ◌⊎◌, ℕ, true, List, Option, Some, None}
use Rattle.disk.specs.Crashes.{History}
use Rattle.disk.specs.Faults.{Rose}
use Rattle.commit_log.specs.Log.{IsSameLater, LogState}
use Rattle.record_text.specs.declared.record.Record.{Record}
use Rattle.store_model.specs.Store.{RecordedStore}
use Rattle.commit_core.specs.Logged.{IsBeside, IsInStep}

-- the log, if there is one, is that of the core
abbrev pub StandsBeside : {D : Type 0} → RecordedStore → Option (LogState D) → Type 0
StandsBeside core None = Unit {0}
StandsBeside core (Some log) = IsBeside core log

-- The log is that of the core still, and in step with it where it was. The store is stopped only where it was, or where the
-- disk is to blame.
pub record KeepsStep {D : Type 0} (tells : Type 0) (bytes : D → List ℕ) (history : D → History) (chosen : D → Option (List ℕ)) (faults : D → ℕ) (old new : RecordedStore) (log later : LogState D) : Type 0 where
  pub beside : IsBeside new later
  pub step : (base : List Record) → IsInStep tells bytes history base old log → IsInStep tells bytes history base new later
  pub blamed : new.state.stopped ≡ true → (old.state.stopped ≡ true) ⊎ Rose (faults log.disk) (faults later.disk)
  pub same : IsSameLater chosen faults log.disk later.disk

-- A core without a log isn't stopped by it.
abbrev pub KeepsLog : {D : Type 0} → Type 0 → (D → List ℕ) → (D → History) → (D → Option (List ℕ)) → (D → ℕ) → RecordedStore → RecordedStore → Option (LogState D) → Option (LogState D) → Type 0
KeepsLog tells bytes history chosen faults old new None None = new.state.stopped ≡ old.state.stopped
KeepsLog tells bytes history chosen faults old new (Some log) (Some later) = KeepsStep tells bytes history chosen faults old new log later
KeepsLog tells bytes history chosen faults old new None (Some later) = ⊥
KeepsLog tells bytes history chosen faults old new (Some log) None = ⊥
