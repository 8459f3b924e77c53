-- What a request with a log gives: a log is made, or session files are run over the store of one. The device of the log is `was`
-- before it and `is` after it; what it told counts where it tells its bytes.
use Rattle.std.specs.Prelude.{◌≡◌, ◌≢◌, ◌⊎◌, ℕ, ◌<◌, ◌≤◌, true, List, [], ◌++◌, length, map, Option, Some}
use Rattle.disk.specs.Crashes.{EachCrash}
use Rattle.disk.specs.Faults.{Rose}
use Rattle.record_text.specs.declared.record.Record.{Record}
use Rattle.commit_log.specs.Format.{Opens}
use Rattle.outside.specs.Files.{Contents}
use Rattle.input_files.specs.Loads.{Loads, LoadsFirst, NoneFailed}
use Rattle.store_model.specs.declared.event.Event.{Event}
use Rattle.store_model.specs.Logs.{has_fault}
use Rattle.store_model.specs.Store.{RecordedStore, version}
use Rattle.commit_core.specs.Logged.{Lasts, lost_of, records_of}
use Rattle.commit_core.specs.Restored.{restored}
use Rattle.session_model.specs.declared.command.Command.{Command}
use Rattle.session_model.specs.declared.reply.SessionReply.{SessionReply}
use Rattle.session_model.specs.Print.{IsRunText}
use Rattle.session_model.specs.Sessions.{HasReplies}
use Rattle.session_laws.specs.Following.{Follow, fault_place}
use Rattle.session_files.specs.declared.fault.RunFault.{RunFault}
use Rattle.session_files.specs.declared.fault.RunFault.TheVariants as runs
use Rattle.session_files.specs.declared.session_run.SessionRun.{SessionRun}
use Rattle.session_files.specs.Faults.{StopsRun}
use Rattle.session_files.specs.Loading.{HoldSessions}
use Rattle.session_files.specs.Logged.{run_over}
use Rattle.session_files.specs.Runs.{LoadsAll}
use Rattle.log_command.specs.declared.fault.CreateLogFault.{CreateLogFault}
use Rattle.log_command.specs.declared.fault.LogFault.{LogFault}
use Rattle.log_command.specs.Devices.{Device, IsKept}
use Rattle.log_command.specs.Opened.{AreFound, BlamesDisk, IsMade, StopsCreation, StopsLog}
use Rattle.log_command.specs.Restoring.{AreRestored}
use Rattle.shacl_guard.specs.declared.request.LogRequest.{LogRequest}
use Rattle.shacl_guard.specs.declared.request.LogRequest.TheVariants.{Create, Logged}
use Rattle.shacl_guard.specs.declared.request.LoggedRun.{LoggedRun}
use Rattle.shacl_guard.specs.declared.status.Status.{Status}
use Rattle.shacl_guard.specs.declared.status.Status.TheVariants.{Done, ReadFault, Memory, TooManyFiles}
use Rattle.shacl_guard.specs.Statuses.{error_line, of_creation, of_fault, of_log, of_run}

-- the records that were found restore this store, and its sessions begin to number their blank nodes here
pub record IsOpened (tells : Type 0) (was : Device) (r : SessionRun) (records : List Record) (core : RecordedStore) (firsts : List ℕ) : Type 0 where
  pub found : AreFound tells was.bytes records
  pub are_restored : AreRestored r.limits records (length r.files) core firsts

-- each crash leaves these records, then one for each commit of the history that was accepted, by what it changed and staged; and
-- where the log failed perhaps that of the commit at which it did
abbrev pub LastsBehind : List Record → List Event → Device → Type 0
LastsBehind records history is =
    let start = restored records in
    Lasts (records ++ records_of start.graph (version start) history) (lost_of start.graph (version start) history) is.history.now

-- The sessions of the files were run over the store of the log's records: the history is one of these files, its replies and its
-- order are printed. The log has its commits. The status tells whether the log failed, which the disk is to blame for.
pub record IsLoggedRun (tells : Type 0) (held : Option Contents) (q : LoggedRun) (s : Status) (before after : Loads) (was is : Device) (text : List ℕ) : Type 0 where
  pub few : length q.run.files ≤ 64
  pub records : List Record
  pub core : RecordedStore
  pub firsts : List ℕ
  pub opened : IsOpened tells was q.run records core firsts
  pub all : List (List Command)
  pub sessions : HoldSessions held firsts 1 q.run.files all before.refused after.refused
  pub history : List Event
  pub replies : List (List SessionReply)
  pub follow : Follow all q.run.limits (restored records) history replies
  pub runs : HasReplies all q.run.limits (restored records) (map (λ e. e.session) history) (fault_place history) replies
  pub printed : IsRunText replies (map (λ e. e.session) history) text
  pub status_is : s ≡ of_fault (has_fault history)
  pub blamed : has_fault history ≡ true → Rose was.faults is.faults
  pub lasts : tells → LastsBehind records history is
  pub chosen_is : is.chosen ≡ Some q.log
  pub loads : LoadsAll q.run.files before after

-- Nothing is printed where a log is made, and no file is loaded.
abbrev pub GivesOfLog : Type 0 → Option Contents → LogRequest → Status → Loads → Loads → Device → Device → List ℕ → Type 0
GivesOfLog tells held (Create name) s before after was is text = (s ≡ Done) × (text ≡ []) × (after ≡ before) × IsMade tells name was is
GivesOfLog tells held (Logged q) s before after was is text = IsLoggedRun tells held q s before after was is text

-- Why a log wasn't opened, before any file was loaded. A read gives what it gave.
pub record StopsAtLog (tells : Type 0) (q : LoggedRun) (s : Status) (before after : Loads) (was is : Device) : Type 0 where
  pub few : length q.run.files ≤ 64
  pub fault : LogFault
  pub status_is : s ≡ of_log fault
  pub stops : StopsLog tells was.bytes q.run.limits before.refused after.refused fault
  pub blames : BlamesDisk q.log was is fault
  pub kept : IsKept tells was is
  pub none_loaded : after.loaded ≡ before.loaded
  pub none_failed : NoneFailed before after

-- a log that was opened is as it was found: a read gives what it gave, and each crash leaves these records
pub record IsAsFound (tells : Type 0) (records : List Record) (was is : Device) : Type 0 where
  pub kept : IsKept tells was is
  pub lasts : tells → EachCrash (λ image. Opens image records) is.history.now

-- Why its session files weren't run, once it was opened. It is as it was found, but where memory ran out.
pub record StopsBehindLog (tells : Type 0) (held : Option Contents) (q : LoggedRun) (s : Status) (before after : Loads) (was is : Device) : Type 0 where
  pub records : List Record
  pub core : RecordedStore
  pub firsts : List ℕ
  pub opened : IsOpened tells was q.run records core firsts
  pub fault : RunFault
  pub status_is : s ≡ of_run fault
  pub stops : StopsRun fault held firsts (run_over core q.run.files) before after
  pub kept : fault ≢ runs.Memory → IsAsFound tells records was is
  pub chosen_is : is.chosen ≡ Some q.log

-- more than 64 files are named: the disk wasn't called
abbrev pub HasTooMany : LoggedRun → Status → Loads → Loads → Device → Device → Type 0
HasTooMany q s before after was is = (64 < length q.run.files) × (s ≡ TooManyFiles) × (after ≡ before) × (is ≡ was)

-- Why a request gives nothing.
abbrev pub StopsOfLog : Type 0 → Option Contents → LogRequest → Status → Loads → Loads → Device → Device → Type 0
StopsOfLog tells held (Create name) s before after was is = (fault : CreateLogFault) × (s ≡ of_creation fault) × StopsCreation tells name was is fault × (after ≡ before)
StopsOfLog tells held (Logged q) s before after was is =
    HasTooMany q s before after was is ⊎ (StopsAtLog tells q s before after was is ⊎ StopsBehindLog tells held q s before after was is)

-- its text is due, or the line of the error
abbrev pub IsDueOfLog : Type 0 → Option Contents → LogRequest → Status → Loads → Loads → Device → Device → List ℕ → Type 0
IsDueOfLog tells held q s before after was is text =
    GivesOfLog tells held q s before after was is text ⊎ (StopsOfLog tells held q s before after was is × (error_line s ≡ Some text))

-- the files of a request, in the order in which they are loaded
abbrev pub log_files : LogRequest → List (List ℕ)
log_files (Create name) = []
log_files (Logged q) = q.run.files

-- nothing is due: a file couldn't be read or the disk failed; or memory ran out, and no load failed
abbrev pub FailsOfLog : Status → Type 0 → Option Contents → LogRequest → Loads → Loads → Device → Device → Type 0
FailsOfLog ReadFault tells held q before after was is = StopsOfLog tells held q ReadFault before after was is
FailsOfLog Memory tells held q before after was is = LoadsFirst (log_files q) before after × NoneFailed before after
FailsOfLog _ tells held q before after was is = ⊥
