-- What a run of session files over a core and its log gives.
use Rattle.std.specs.Prelude.{ℕ, ◌≤◌, List, length, Option, None}
use Rattle.disk.specs.Crashes.{History}
use Rattle.commit_log.specs.Log.{LogState}
use Rattle.outside.specs.Files.{Contents}
use Rattle.input_files.specs.Loads.{Loads}
use Rattle.store_model.specs.Store.{RecordedStore}
use Rattle.session_model.specs.declared.command.Command.{Command}
use Rattle.session_model.specs.declared.reply.SessionReply.{SessionReply}
use Rattle.session_model.specs.Print.{IsRunText}
use Rattle.session_threads.specs.Ends.{EndsRun}
use Rattle.session_files.specs.declared.session_run.SessionRun.{SessionRun}
use Rattle.session_files.specs.Loading.{HoldSessions}
use Rattle.session_files.specs.Runs.{LoadsAll}

-- the files that are run over a core
abbrev pub run_over : RecordedStore → List (List ℕ) → SessionRun
run_over core names = record { limits = core.limits; history = None; files = names }

-- The sessions were run over a core and its log, as `EndsRun` has it, and the text is what they print.
pub record PrintsRun {D : Type 0} (tells : Type 0) (bytes : D → List ℕ) (history : D → History) (chosen : D → Option (List ℕ)) (faults : D → ℕ) (files : List (List Command)) (core : RecordedStore) (log : Option (LogState D)) (text : List ℕ) (later : Option (LogState D)) : Type 0 where
  pub order : List ℕ
  pub replies : List (List SessionReply)
  pub last : RecordedStore
  pub ends : EndsRun tells bytes history chosen faults files core log order replies last later
  pub printed : IsRunText replies order text

-- so it is of at most 64 session files, and all files were loaded; the numbers of the first blank nodes of their sessions are
-- `firsts`
pub record AreLogged {D : Type 0} (tells : Type 0) (bytes : D → List ℕ) (history : D → History) (chosen : D → Option (List ℕ)) (faults : D → ℕ) (held : Option Contents) (firsts : List ℕ) (core : RecordedStore) (log : Option (LogState D)) (names : List (List ℕ)) (before after : Loads) (text : List ℕ) (later : Option (LogState D)) : Type 0 where
  pub few : length names ≤ 64
  pub all : List (List Command)
  pub sessions : HoldSessions held firsts 1 names all before.refused after.refused
  pub prints : PrintsRun tells bytes history chosen faults all core log text later
  pub loads : LoadsAll names before after
