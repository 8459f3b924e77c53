-- What a run of session files prints. The patterns that were refused are old before the call, and new after.
use Rattle.std.specs.Prelude.{◌≡◌, ℕ, ◌≤◌, List, [], ◌∷◌, length, map, Option, Some, None}
use Rattle.store_model.specs.declared.event.Limits.{Limits}
use Rattle.store_model.specs.Store.{State, empty_store}
use Rattle.session_model.specs.declared.command.Command.{Command}
use Rattle.session_model.specs.Print.{IsPrint}
use Rattle.session_player.specs.Histories.{IsFirstBad}
use Rattle.history_reader.specs.History.{history_of}
use Rattle.outside.specs.Faults.{Refusal}
use Rattle.outside.specs.Files.{Contents}
use Rattle.input_files.specs.Lengths.{HoldsText}
use Rattle.input_files.specs.Loads.{Loads, LoadsSome, NoneFailed}
use Rattle.session_files.specs.declared.session_run.SessionRun.{SessionRun}
use Rattle.session_files.specs.Loading.{HoldSessions}

-- all files, in the order in which they are loaded
abbrev pub all_files : Option (List ℕ) → List (List ℕ) → List (List ℕ)
all_files None names = names
all_files (Some history) names = history ∷ names

-- all files were loaded, each once, in order, and no other
abbrev pub LoadsAll : List (List ℕ) → Loads → Loads → Type 0
LoadsAll names before after = LoadsSome (length names) names before after × NoneFailed before after

-- the order is that of the history, where one is handed in
abbrev pub IsOrderOf : Option Contents → Option (List ℕ) → List ℕ → Type 0
IsOrderOf held None order = Unit {0}
IsOrderOf held (Some name) order = (bytes : List ℕ) × HoldsText held name bytes × (history_of bytes ≡ Some (map Some order))

-- What a run begins with: the state of its store, and the numbers of the first blank nodes of its sessions.
pub record Start : Type 0 where
  pub state : State
  pub firsts : List ℕ

-- without a log: an empty store, and 1 for each session
abbrev pub empty_start : Start
empty_start = record { state = empty_store; firsts = [] }

-- The text is what a run of the files prints, within the limits, in an order that is valid for them, where the log fails at
-- this place of it, if it does.
abbrev pub IsRun : Option Contents → Start → SessionRun → Option ℕ → List Refusal → List Refusal → List ℕ → Type 0
IsRun held start r fault old new text =
    (all : List (List Command)) × (order : List ℕ) × HoldSessions held start.firsts 1 r.files all old new × IsOrderOf held r.history order × IsPrint all r.limits start.state order fault text

-- so it is, of at most 64 session files, and all files were loaded
abbrev pub AreRun : Option Contents → Start → SessionRun → Option ℕ → Loads → Loads → List ℕ → Type 0
AreRun held start r fault before after text = (length r.files ≤ 64) × IsRun held start r fault before.refused after.refused text × LoadsAll (all_files r.history r.files) before after

-- place k of a history is the first that isn't valid; 0 where its text doesn't begin as one
abbrev pub IsBadPlace : List (List Command) → Limits → Option (List (Option ℕ)) → ℕ → Type 0
IsBadPlace all l None k = k ≡ 0
IsBadPlace all l (Some places) k = IsFirstBad all l empty_store places k

-- of files that are run over an empty store
abbrev pub IsBadHistory : Option Contents → Limits → Option (List ℕ) → List (List ℕ) → ℕ → List Refusal → List Refusal → Type 0
IsBadHistory held l None names k old new = ⊥
IsBadHistory held l (Some name) names k old new =
    (bytes : List ℕ) × (all : List (List Command)) × HoldsText held name bytes × HoldSessions held [] 1 names all old new × IsBadPlace all l (history_of bytes) k
