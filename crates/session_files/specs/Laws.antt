-- Laws of runs that are replayed. They speak of runs without a log.
use Rattle.std.specs.Prelude.{◌≡◌, ◌⊎◌, ℕ, ◌==◌, false, List, [], ◌∷◌, ◌++◌, Some, None}
use Rattle.std.specs.List.{list_any}
use Rattle.store_model.specs.declared.event.Limits.{Limits}
use Rattle.session_model.specs.declared.command.Command.{Command}
use Rattle.outside.specs.Faults.{Refusal}
use Rattle.outside.specs.Files.{Contents}
use Rattle.input_files.specs.Lengths.{HoldsText}
use Rattle.session_files.specs.declared.session_run.SessionRun.{SessionRun}
use Rattle.session_files.specs.Loading.{HoldSessions}
use Rattle.session_files.specs.Runs.{IsBadHistory, IsRun, empty_start}

-- session files that are to be run, and the same in the order of a history
abbrev pub run_of : Limits → List (List ℕ) → SessionRun
run_of l names = record { limits = l; history = None; files = names }

abbrev pub replay_of : Limits → List ℕ → List (List ℕ) → SessionRun
replay_of l history names = record { limits = l; history = Some history; files = names }

-- whole lines, each with its LF
abbrev pub EndsLine : List ℕ → Type 0
EndsLine text = (text ≡ []) ⊎ ((more : List ℕ) × (text ≡ more ++ 10 ∷ []))

-- the text ends with this line, which has an LF at its end and none before
pub record IsLastLine (text line : List ℕ) : Type 0 where
  pub before : List ℕ
  pub words : List ℕ
  pub whole : text ≡ before ++ line
  pub closed : line ≡ words ++ 10 ∷ []
  pub ends : EndsLine before
  pub one : list_any (λ c. c == 10) words ≡ false

-- The files hold the same sessions at both readings, as they do where the maker refuses the same patterns. The patterns
-- that were refused are old before a reading, and new after.
abbrev pub ReadAlike : Contents → List ℕ → List (List ℕ) → List Refusal → List Refusal → List Refusal → List Refusal → Type 0
ReadAlike held firsts names old new old' new' = (all again : List (List Command)) → HoldSessions (Some held) firsts 1 names all old new → HoldSessions (Some held) firsts 1 names again old' new' → again ≡ all

-- What the replay prints is this text, and it never breaks off at a bad place of its history.
pub record PrintsAgain (held : Contents) (l : Limits) (history : List ℕ) (names : List (List ℕ)) (old new : List Refusal) (text : List ℕ) : Type 0 where
  pub prints : (again : List ℕ) → IsRun (Some held) empty_start (replay_of l history names) None old new again → again ≡ text
  pub valid : (k : ℕ) → IsBadHistory (Some held) l (Some history) names k old new → ⊥

-- The last line that a run printed, in a file, is a history in whose order the same files, within the same limits, print the
-- same.
abbrev pub ReplaysPrint : Type 0
ReplaysPrint =
    (held : Contents) (l : Limits) (history : List ℕ) (names : List (List ℕ)) (old new old' new' : List Refusal) (text line : List ℕ)
    → IsRun (Some held) empty_start (run_of l names) None old new text → IsLastLine text line → HoldsText (Some held) history line → ReadAlike held [] names old new old' new' → PrintsAgain held l history names old' new' text

-- where no pattern is refused, both readings are alike
abbrev pub UnrefusedReadAlike : Type 0
UnrefusedReadAlike = (held : Contents) (firsts : List ℕ) (names : List (List ℕ)) (old other : List Refusal) → ReadAlike held firsts names old old other other
