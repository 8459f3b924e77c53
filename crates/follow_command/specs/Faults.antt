-- Why a log isn't followed.
use Rattle.std.specs.Prelude.{◌≡◌, ◌⊎◌, ℕ, List, length, Option}
use Rattle.outside.specs.Files.{Contents}
use Rattle.input_files.specs.declared.file.FileFault.{FileFault}
use Rattle.input_files.specs.declared.file.FileFault.TheVariants as file
use Rattle.input_files.specs.Lengths.{HoldsText, IsTooLong}
use Rattle.input_files.specs.Loads.{Loads, LoadsFirst, LoadsSome, NoneFailed, OnlyFailed}
use Rattle.record_text.specs.declared.record.Record.{Record}
use Rattle.commit_log.specs.Bad.{IsBad}
use Rattle.commit_log.specs.Format.{Opens}
use Rattle.follow_command.specs.declared.fault.FollowFault.{FollowFault}
use Rattle.follow_command.specs.declared.fault.FollowFault.TheVariants as fault
use Rattle.follow_command.specs.declared.files.FollowedFiles.{FollowedFiles}
use Rattle.follow_command.specs.Followed.{HoldBoth, LoadsBoth, both_files}
use Rattle.follow_command.specs.Order.{IsBadOrder}

-- why file f gave no text
abbrev pub of_file : FileFault → ℕ → FollowFault
of_file file.Failed f = fault.ReadFault
of_file file.TooLong f = fault.TooLong f
of_file file.Memory f = fault.Memory

-- the fault is one of a file that gave no text
abbrev pub IsFileFault : FollowFault → Type 0
IsFileFault fault.ReadFault = Unit {0}
IsFileFault (fault.TooLong f) = Unit {0}
IsFileFault (fault.BadLog number) = ⊥
IsFileFault (fault.BadOrder place) = ⊥
IsFileFault fault.Memory = Unit {0}

-- file f is the first of the two that is so: the log is file 1, and holds a text where the order, file 2, is so
abbrev pub IsFirst : Option Contents → FollowedFiles → ℕ → (List ℕ → Type 0) → Type 0
IsFirst held v f P = ((f ≡ 1) × P v.log_file) ⊎ ((f ≡ 2) × ((text : List ℕ) × HoldsText held v.log_file text) × P v.order_file)

-- place k of the order is the first that is no number of a record of the log
abbrev pub BreaksOrder : List ℕ → List ℕ → ℕ → Type 0
BreaksOrder log order k = (records : List Record) × Opens log records × IsBadOrder (length records) order k

-- why two texts, which are told, aren't followed
abbrev pub RefusesTexts : List ℕ → List ℕ → FollowFault → Type 0
RefusesTexts log order fault.ReadFault = ⊥
RefusesTexts log order (fault.TooLong f) = ⊥
RefusesTexts log order (fault.BadLog number) = IsBad log number
RefusesTexts log order (fault.BadOrder place) = BreaksOrder log order place
RefusesTexts log order fault.Memory = Unit {0}

-- Why: the load of the first file failed, or that of the second; or a file is too long; or the record with this number is to
-- blame that the first is no log; or, where it is one, this place that the second is no order of its records; or memory ran
-- out. The files up to the one that decided it were loaded.
abbrev pub StopsFollow : FollowFault → Option Contents → FollowedFiles → Loads → Loads → Type 0
StopsFollow fault.ReadFault held v before after = (f : ℕ) × IsFirst held v f (λ name. OnlyFailed name before after) × LoadsSome f (both_files v) before after
StopsFollow (fault.TooLong f) held v before after = IsFirst held v f (IsTooLong held) × LoadsSome f (both_files v) before after × NoneFailed before after
StopsFollow (fault.BadLog number) held v before after = (log order : List ℕ) × HoldBoth held v log order × IsBad log number × LoadsBoth v before after
StopsFollow (fault.BadOrder place) held v before after = (log order : List ℕ) × HoldBoth held v log order × BreaksOrder log order place × LoadsBoth v before after
StopsFollow fault.Memory held v before after = LoadsFirst (both_files v) before after × NoneFailed before after
