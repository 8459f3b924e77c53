-- Why session files gave no run. The numbers of the first blank nodes of their sessions are `firsts`.
use Rattle.std.specs.Prelude.{◌≡◌, ◌⊎◌, ℕ, ◌+◌, ◌<◌, ◌≤◌, List, ◌∷◌, length, Option, Some, None}
use Rattle.outside.specs.Faults.{Refusal}
use Rattle.outside.specs.Files.{Contents}
use Rattle.input_files.specs.declared.file.FileFault.{FileFault}
use Rattle.input_files.specs.declared.file.FileFault.TheVariants as file
use Rattle.input_files.specs.Lengths.{IsTooLong}
use Rattle.input_files.specs.Loads.{Loads, LoadsFirst, LoadsOne, LoadsSome, NoneFailed, NoneRefused, OnlyFailed}
use Rattle.session_files.specs.declared.fault.RunFault.{RunFault}
use Rattle.session_files.specs.declared.fault.RunFault.TheVariants.{TooManyFiles, ReadFault, TooLong, BadSession, BadHistory, Memory}
use Rattle.session_files.specs.declared.session_run.SessionRun.{SessionRun}
use Rattle.session_files.specs.Loading.{FirstAt, HasBadLine, HoldsHistory, IsBadLine, IsFirstLong, loaded_up_to}
use Rattle.session_files.specs.Runs.{IsBadHistory, all_files}

-- the load of one of the session files failed, after those before it, which hold sessions
abbrev pub OneFailed : Option Contents → List ℕ → List (List ℕ) → Loads → Loads → Type 0
OneFailed held firsts names before after = (i : ℕ) × (length names ≤ 64) × FirstAt held firsts names i before.refused after.refused (λ name. OnlyFailed name before after) × LoadsSome i names before after

-- the load of the history failed, or of one of the session files after it
abbrev pub HistoryFailed : List ℕ → List (List ℕ) → Loads → Loads → Type 0
HistoryFailed history names before after = (length names ≤ 64) × OnlyFailed history before after × LoadsSome 1 (history ∷ names) before after × NoneRefused before after

abbrev pub SessionFailed : Option Contents → List ℕ → List ℕ → List (List ℕ) → Loads → Loads → Type 0
SessionFailed held firsts history names before after =
    (i : ℕ) × (length names ≤ 64) × HoldsHistory held (Some history) × FirstAt held firsts names i before.refused after.refused (λ name. OnlyFailed name before after) × LoadsSome (i + 1) (history ∷ names) before after

abbrev pub SomeFailed : Option Contents → List ℕ → Option (List ℕ) → List (List ℕ) → Loads → Loads → Type 0
SomeFailed held firsts None names before after = OneFailed held firsts names before after
SomeFailed held firsts (Some history) names before after = HistoryFailed history names before after ⊎ SessionFailed held firsts history names before after

-- why the files aren't run
abbrev pub IsRefused : Option Contents → List ℕ → SessionRun → RunFault → List Refusal → List Refusal → Type 0
IsRefused held firsts r TooManyFiles old new = (64 < length r.files) × (new ≡ old)
IsRefused held firsts r (BadSession i n) old new = (length r.files ≤ 64) × HoldsHistory held r.history × FirstAt held firsts r.files i old new (HasBadLine held firsts i n)
IsRefused held firsts r (TooLong f) old new = (length r.files ≤ 64) × IsFirstLong held firsts r.history r.files f old new
IsRefused held firsts r (BadHistory k) old new = (length r.files ≤ 64) × IsBadHistory held r.limits r.history r.files k old new
IsRefused held firsts r ReadFault old new = ⊥
IsRefused held firsts r Memory old new = ⊥

-- how many of the files are loaded where they aren't run
abbrev pub count_loaded : RunFault → SessionRun → ℕ
count_loaded (BadHistory k) r = length (all_files r.history r.files)
count_loaded (BadSession i n) r = loaded_up_to r.history i
count_loaded (TooLong f) r = f
count_loaded TooManyFiles r = 0
count_loaded ReadFault r = 0
count_loaded Memory r = 0

-- they are refused, and those up to the one that decided it were loaded
abbrev pub IsStopped : RunFault → Option Contents → List ℕ → SessionRun → Loads → Loads → Type 0
IsStopped fault held firsts r before after = IsRefused held firsts r fault before.refused after.refused × LoadsSome (count_loaded fault r) (all_files r.history r.files) before after × NoneFailed before after

-- Why the files gave no run: the load of one failed; or memory ran out; or they are refused.
abbrev pub StopsRun : RunFault → Option Contents → List ℕ → SessionRun → Loads → Loads → Type 0
StopsRun ReadFault held firsts r before after = SomeFailed held firsts r.history r.files before after
StopsRun Memory held firsts r before after = LoadsFirst (all_files r.history r.files) before after × NoneFailed before after
StopsRun (BadSession i n) held firsts r before after = IsStopped (BadSession i n) held firsts r before after
StopsRun (TooLong f) held firsts r before after = IsStopped (TooLong f) held firsts r before after
StopsRun TooManyFiles held firsts r before after = IsStopped TooManyFiles held firsts r before after
StopsRun (BadHistory k) held firsts r before after = IsStopped (BadHistory k) held firsts r before after

-- why bytes within their length are no file of session i, whose first blank node has the number first
abbrev pub Unread : RunFault → ℕ → ℕ → List ℕ → List Refusal → List Refusal → Type 0
Unread (BadSession j n) i first bytes old new = (j ≡ i) × IsBadLine i first n bytes × (new ≡ old)
Unread Memory i first bytes old new = Unit {0}
Unread (TooLong j) i first bytes old new = ⊥
Unread ReadFault i first bytes old new = ⊥
Unread TooManyFiles i first bytes old new = ⊥
Unread (BadHistory k) i first bytes old new = ⊥

-- why a load gave no session i
abbrev pub Unloaded : RunFault → Option Contents → List ℕ → ℕ → List ℕ → Loads → Loads → Type 0
Unloaded ReadFault held firsts i name before after = OnlyFailed name before after × LoadsOne name before after × NoneRefused before after
Unloaded (BadSession j n) held firsts i name before after = (j ≡ i) × HasBadLine held firsts i n name × LoadsOne name before after × NoneFailed before after × NoneRefused before after
Unloaded (TooLong j) held firsts i name before after = (j ≡ i) × IsTooLong held name × LoadsOne name before after × NoneFailed before after × NoneRefused before after
Unloaded Memory held firsts i name before after = ((after.loaded ≡ before.loaded) ⊎ LoadsOne name before after) × NoneFailed before after
Unloaded TooManyFiles held firsts i name before after = ⊥
Unloaded (BadHistory k) held firsts i name before after = ⊥

-- why the session files gave no sessions
abbrev pub Stops : RunFault → Option Contents → List ℕ → List (List ℕ) → Loads → Loads → Type 0
Stops ReadFault held firsts names before after = OneFailed held firsts names before after
Stops Memory held firsts names before after = LoadsFirst names before after × NoneFailed before after
Stops (BadSession i n) held firsts names before after = (length names ≤ 64) × FirstAt held firsts names i before.refused after.refused (HasBadLine held firsts i n) × LoadsSome i names before after × NoneFailed before after
Stops (TooLong i) held firsts names before after = (length names ≤ 64) × FirstAt held firsts names i before.refused after.refused (IsTooLong held) × LoadsSome i names before after × NoneFailed before after
Stops TooManyFiles held firsts names before after = ⊥
Stops (BadHistory k) held firsts names before after = ⊥

-- why file f gave no text
abbrev pub of_file : FileFault → ℕ → RunFault
of_file file.Failed f = ReadFault
of_file file.TooLong f = TooLong f
of_file file.Memory f = Memory

-- the fault of a session file that comes behind a history, which is file 1
abbrev pub behind_history : RunFault → RunFault
behind_history (TooLong i) = TooLong (i + 1)
behind_history fault = fault

-- why the session files in the order of a history's text gave no run
abbrev pub Unplayed : RunFault → (ℕ → Type 0) → Type 0
Unplayed (BadHistory k) IsBad = IsBad k
Unplayed Memory IsBad = Unit {0}
Unplayed ReadFault IsBad = ⊥
Unplayed (BadSession i n) IsBad = ⊥
Unplayed (TooLong f) IsBad = ⊥
Unplayed TooManyFiles IsBad = ⊥
