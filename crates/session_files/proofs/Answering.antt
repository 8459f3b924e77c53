-- What a run of session files gives, from what their loading gives.
use Rattle.std.proofs.Common.{◌≡◌, ℕ, ◌+◌, ◌≤◌, ◌<◌, List, [], ◌∷◌, ◌++◌, length, take, map, get_or, Option, Some, None, refl, sym, ap, ◌∙◌, subst, inl, inr, add-one, append_assoc}
use Rattle.std.proofs.lemmas.List.{append-nil}
use Rattle.std.specs.Prelude.{◌≢◌, IfErr, MatchResult, Result, Ok, Err}
use Rattle.store_model.specs.declared.event.Limits.{Limits}
use Rattle.disk.specs.Crashes.{History}
use Rattle.commit_log.specs.Log.{LogState}
use Rattle.store_model.specs.Store.{RecordedStore, empty_store}
use Rattle.session_model.specs.declared.command.Command.{Command}
use Rattle.session_model.specs.Print.{IsPrint}
use Rattle.history_reader.specs.History.{history_of}
use Rattle.outside.specs.Faults.{Refusal}
use Rattle.outside.specs.Files.{Contents}
use Rattle.input_files.specs.declared.file.FileFault.{FileFault}
use Rattle.input_files.specs.declared.file.FileFault.TheVariants as file
use Rattle.input_files.specs.Faults.{IsCause}
use Rattle.input_files.specs.Lengths.{HoldsText, IsTooLong}
use Rattle.input_files.specs.Loads.{Loads, LoadsOne, NoneFailed, NoneRefused, OnlyFailed}
use Rattle.session_files.specs.declared.fault.RunFault.{RunFault}
use Rattle.session_files.specs.declared.fault.RunFault.TheVariants.{TooManyFiles, ReadFault, TooLong, BadSession, BadHistory, Memory}
use Rattle.session_files.specs.declared.session_run.SessionRun.{SessionRun}
use Rattle.session_files.specs.Loading.{FirstAt, HasBadLine, HoldSessions}
use Rattle.session_files.specs.Logged.{AreLogged, PrintsRun, run_over}
use Rattle.session_files.specs.Runs.{AreRun, IsBadPlace, IsRun, LoadsAll, all_files, empty_start}
use Rattle.session_files.specs.Faults.{Stops, StopsRun, Unplayed, behind_history, of_file}

-- nothing was loaded
none_loaded : (names old : List (List ℕ)) → old ≡ old ++ take 0 names
none_loaded names old = sym (append-nil old)

-- too many files: nothing is loaded
pub too_many : (held : Option Contents) (firsts : List ℕ) (q : SessionRun) (before after : Loads) → after ≡ before → 64 < length q.files → StopsRun TooManyFiles held firsts q before after
too_many held firsts q before after e many = ((many, ap (λ (l : Loads). l.refused) e), ap (λ (l : Loads). l.loaded) e ∙ none_loaded (all_files q.history q.files) before.loaded, ap (λ (l : Loads). l.failed) e)

-- without a history: as the session files stopped
pub stops_plain : (s : RunFault) (held : Option Contents) (firsts : List ℕ) (l : Limits) (names : List (List ℕ)) (before after : Loads) → Stops s held firsts names before after → StopsRun s held firsts (record { limits = l; history = None; files = names }) before after
stops_plain ReadFault held firsts l names before after h = h
stops_plain Memory held firsts l names before after h = h
stops_plain (BadSession i n) held firsts l names before after h = ((h.0, tt, h.1), h.2, h.3)
stops_plain (TooLong i) held firsts l names before after h = ((h.0, h.1), h.2, h.3)
stops_plain TooManyFiles held firsts l names before after h = absurd h
stops_plain (BadHistory k) held firsts l names before after h = absurd h

-- a run over a core and its log, from what its sessions give
module _ {D : Type 0} (tells : Type 0) (bytes : D → List ℕ) (history : D → History) (chosen : D → Option (List ℕ)) (faults : D → ℕ) where
  pub run_over_core : {X : Type 0} (of : X → List ℕ) (held : Option Contents) (firsts : List ℕ) (core : RecordedStore) (log later : Option (LogState D)) (names : List (List ℕ)) (all : List (List Command)) (before after : Loads) (r : Result X RunFault) → length names ≤ 64
      → HoldSessions held firsts 1 names all before.refused after.refused → LoadsAll names before after → MatchResult r (λ t. PrintsRun tells bytes history chosen faults all core log (of t) later) (λ s. s ≡ Memory)
      → MatchResult r (λ t. AreLogged tells bytes history chosen faults held firsts core log names before after (of t) later) (λ s. StopsRun s held firsts (run_over core names) before after)
  run_over_core of held firsts core log later names all before after (Ok t) few sessions loads h = record { few = few; all = all; sessions = sessions; prints = h; loads = loads }
  run_over_core of held firsts core log later names all before after (Err s) few sessions loads h = subst (λ (x : RunFault). StopsRun x held firsts (run_over core names) before after) (sym h) ((length names, loads.0), loads.1)

-- where nothing but memory stops a run, its log may differ
pub only_memory : {X L : Type 0} (P : X → Type 0) (r : Result X RunFault) (log later : L) → MatchResult r P (λ s. s ≡ Memory) → IfErr r (λ s. s ≢ Memory → later ≡ log)
only_memory P (Ok x) log later h = tt
only_memory P (Err s) log later h = λ other. absurd (other h)

-- the history's replay of at most 64 files
pub replayed : {X : Type 0} (bytes : X → List ℕ) (held : Option Contents) (q : SessionRun) (before after : Loads) (r : Result X RunFault) → length q.files ≤ 64
    → MatchResult r (λ t. IsRun held empty_start q None before.refused after.refused (bytes t) × LoadsAll (all_files q.history q.files) before after) (λ s. StopsRun s held [] q before after)
    → MatchResult r (λ t. AreRun held empty_start q None before after (bytes t)) (λ s. StopsRun s held [] q before after)
replayed bytes held q before after (Ok t) few h = (few, h.0, h.1)
replayed bytes held q before after (Err s) few h = h

-- the history's file gave no text
no_history : (f : FileFault) (held : Option Contents) (l : Limits) (name : List ℕ) (names : List (List ℕ)) (before after : Loads) → length names ≤ 64 → NoneRefused before after → IsCause f held name before after → StopsRun (of_file f 1) held [] (record { limits = l; history = Some name; files = names }) before after
no_history file.Failed held l name names before after few same h = inl (few, h.0, h.1, same)
no_history file.TooLong held l name names before after few same h = ((few, inl (refl, h.0, same)), h.1, h.2)
no_history file.Memory held l name names before after few same (inl nothing, none) = ((0, nothing ∙ none_loaded (name ∷ names) before.loaded), none)
no_history file.Memory held l name names before after few same (inr one, none) = ((1, one), none)

pub no_history_as : (s : RunFault) (f : FileFault) (held : Option Contents) (l : Limits) (name : List ℕ) (names : List (List ℕ)) (before after : Loads) → s ≡ of_file f 1 → length names ≤ 64 → NoneRefused before after → IsCause f held name before after → StopsRun s held [] (record { limits = l; history = Some name; files = names }) before after
no_history_as s f held l name names before after e few same h = subst (λ (x : RunFault). StopsRun x held [] (record { limits = l; history = Some name; files = names }) before after) (sym e) (no_history f held l name names before after few same h)

-- what was loaded after the history
after_first : (name : List ℕ) (names old mid new : List (List ℕ)) (i : ℕ) → mid ≡ old ++ name ∷ [] → new ≡ mid ++ take i names → new ≡ old ++ take (i + 1) (name ∷ names)
after_first name names old mid new i m n = n ∙ (ap (λ xs. xs ++ take i names) m ∙ (append_assoc old (name ∷ []) (take i names) ∙ ap (λ k. old ++ take k (name ∷ names)) (sym (add-one i))))

first_maps : (held : Option Contents) (names : List (List ℕ)) (i : ℕ) (old mid new : List Refusal) (P Q : List ℕ → Type 0) → mid ≡ old → ((x : List ℕ) → P x → Q x) → FirstAt held [] names i mid new P → FirstAt held [] names i old new Q
first_maps held names i old mid new P Q e f h = (h.0, h.1, h.2, (h.3.0, subst (λ (xs : List Refusal). HoldSessions held [] 1 (take h.0 names) h.3.0 xs new) e h.3.1), f (get_or names h.0 []) h.4)

first_from : (held : Option Contents) (names : List (List ℕ)) (i : ℕ) (old mid new : List Refusal) (P : List ℕ → Type 0) → mid ≡ old → FirstAt held [] names i mid new P → FirstAt held [] names i old new P
first_from held names i old mid new P e h = subst (λ (xs : List Refusal). FirstAt held [] names i xs new P) e h

pub stops_behind : (t : RunFault) (held : Option Contents) (l : Limits) (name bytes : List ℕ) (names : List (List ℕ)) (before mid after : Loads) → HoldsText held name bytes → LoadsOne name before mid → NoneFailed before mid → NoneRefused before mid → length names ≤ 64 → Stops t held [] names mid after
    → StopsRun (behind_history t) held [] (record { limits = l; history = Some name; files = names }) before after
stops_behind ReadFault held l name bytes names before mid after text one none same few h =
    inr (h.0, few, (bytes, text), first_maps held names h.0 before.refused mid.refused after.refused (λ x. OnlyFailed x mid after) (λ x. OnlyFailed x before after) same (λ x e. e ∙ ap (λ xs. xs ++ x ∷ []) none) h.2, after_first name names before.loaded mid.loaded after.loaded h.0 one h.3)
stops_behind Memory held l name bytes names before mid after text one none same few h = ((h.0.0 + 1, after_first name names before.loaded mid.loaded after.loaded h.0.0 one h.0.1), h.1 ∙ none)
stops_behind (BadSession i n) held l name bytes names before mid after text one none same few h =
    ((few, (bytes, text), first_from held names i before.refused mid.refused after.refused (HasBadLine held [] i n) same h.1), after_first name names before.loaded mid.loaded after.loaded i one h.2, h.3 ∙ none)
stops_behind (TooLong i) held l name bytes names before mid after text one none same few h =
    ((few, inr (i, refl, (bytes, text), first_from held names i before.refused mid.refused after.refused (IsTooLong held) same h.1)), after_first name names before.loaded mid.loaded after.loaded i one h.2, h.3 ∙ none)
stops_behind TooManyFiles held l name bytes names before mid after text one none same few h = absurd h
stops_behind (BadHistory k) held l name bytes names before mid after text one none same few h = absurd h

-- all files, the history's first
loads_behind : (name : List ℕ) (names : List (List ℕ)) (before mid after : Loads) → LoadsOne name before mid → NoneFailed before mid → LoadsAll names mid after → LoadsAll (name ∷ names) before after
loads_behind name names before mid after one none all =
    (after_first name names before.loaded mid.loaded after.loaded (length names) one all.0 ∙ ap (λ k. before.loaded ++ take k (name ∷ names)) (add-one (length names)), all.1 ∙ none)

unplayed_behind : (s : RunFault) (held : Option Contents) (l : Limits) (name bytes : List ℕ) (names : List (List ℕ)) (all : List (List Command)) (before after : Loads) → HoldsText held name bytes → HoldSessions held [] 1 names all before.refused after.refused → LoadsAll (name ∷ names) before after → length names ≤ 64
    → Unplayed s (IsBadPlace all l (history_of bytes)) → StopsRun s held [] (record { limits = l; history = Some name; files = names }) before after
unplayed_behind (BadHistory k) held l name bytes names all before after text sessions loads few h = ((few, (bytes, all, text, sessions, h)), loads.0, loads.1)
unplayed_behind Memory held l name bytes names all before after text sessions loads few h = ((length (name ∷ names), loads.0), loads.1)
unplayed_behind ReadFault held l name bytes names all before after text sessions loads few h = absurd h
unplayed_behind (BadSession i n) held l name bytes names all before after text sessions loads few h = absurd h
unplayed_behind (TooLong i) held l name bytes names all before after text sessions loads few h = absurd h
unplayed_behind TooManyFiles held l name bytes names all before after text sessions loads few h = absurd h

pub played_behind : {X : Type 0} (of : X → List ℕ) (held : Option Contents) (l : Limits) (name bytes : List ℕ) (names : List (List ℕ)) (all : List (List Command)) (before mid after : Loads) (r : Result X RunFault) → HoldsText held name bytes → LoadsOne name before mid → NoneFailed before mid → NoneRefused before mid
    → HoldSessions held [] 1 names all mid.refused after.refused → LoadsAll names mid after → length names ≤ 64
    → MatchResult r (λ t. (order : List ℕ) × (history_of bytes ≡ Some (map Some order)) × IsPrint all l empty_store order None (of t)) (λ s. Unplayed s (IsBadPlace all l (history_of bytes)))
    → MatchResult r (λ t. IsRun held empty_start (record { limits = l; history = Some name; files = names }) None before.refused after.refused (of t) × LoadsAll (name ∷ names) before after) (λ s. StopsRun s held [] (record { limits = l; history = Some name; files = names }) before after)
played_behind of held l name bytes names all before mid after (Ok t) text one none same sessions loads few h =
    ((all, h.0, subst (λ (xs : List Refusal). HoldSessions held [] 1 names all xs after.refused) same sessions, (bytes, text, h.1), h.2), loads_behind name names before mid after one none loads)
played_behind of held l name bytes names all before mid after (Err s) text one none same sessions loads few h =
    unplayed_behind s held l name bytes names all before after text (subst (λ (xs : List Refusal). HoldSessions held [] 1 names all xs after.refused) same sessions) (loads_behind name names before mid after one none loads) few h

-- the same, where what the names hold is told again at the second load
pub stopped_behind : (s : RunFault) (held now : Option Contents) (l : Limits) (name bytes : List ℕ) (names : List (List ℕ)) (before mid after : Loads) → now ≡ held → HoldsText held name bytes → LoadsOne name before mid → NoneFailed before mid → NoneRefused before mid → length names ≤ 64
    → ((t : RunFault) × (s ≡ behind_history t) × Stops t now [] names mid after) → StopsRun s held [] (record { limits = l; history = Some name; files = names }) before after
stopped_behind s held now l name bytes names before mid after e text one none same few h =
    let there = subst (λ (o : Option Contents). Stops h.0 o [] names mid after) e h.2 in
    subst (λ (x : RunFault). StopsRun x held [] (record { limits = l; history = Some name; files = names }) before after) (sym h.1) (stops_behind h.0 held l name bytes names before mid after text one none same few there)

pub sessions_behind : (held now : Option Contents) (names : List (List ℕ)) (all : List (List Command)) (old new : List Refusal) → now ≡ held → HoldSessions now [] 1 names all old new → HoldSessions held [] 1 names all old new
sessions_behind held now names all old new e h = subst (λ (o : Option Contents). HoldSessions o [] 1 names all old new) e h
