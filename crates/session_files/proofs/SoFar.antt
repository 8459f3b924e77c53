-- The loading of session files in their order.
use Rattle.std.proofs.Common.{◌≡◌, ℕ, zero, suc, ◌+◌, ◌<◌, ◌≤◌, ◌⊎◌, inl, inr, List, [], ◌∷◌, ◌++◌, length, take, get_or, Option, refl, sym, ap, ◌∙◌, subst, arith, append_assoc, add-one}
use Rattle.std.proofs.lemmas.List.{take_all, append-nil}
use Rattle.std.proofs.Math.Seq.{take-suc}
use Rattle.session_model.specs.declared.command.Command.{Command}
use Rattle.outside.specs.Faults.{Refusal}
use Rattle.outside.specs.Files.{Contents}
use Rattle.input_files.specs.declared.file.FileFault.{FileFault}
use Rattle.input_files.specs.declared.file.FileFault.TheVariants as file
use Rattle.input_files.specs.Faults.{IsCause}
use Rattle.input_files.specs.Lengths.{HoldsText, IsTooLong}
use Rattle.input_files.specs.Loads.{Loads, LoadsOne, LoadsSome, NoneFailed, NoneRefused, OnlyFailed}
use Rattle.session_files.specs.declared.fault.RunFault.{RunFault}
use Rattle.session_files.specs.declared.fault.RunFault.TheVariants.{TooManyFiles, ReadFault, TooLong, BadSession, BadHistory, Memory}
use Rattle.session_files.specs.declared.reading.LoadedFile.{LoadedFile}
use Rattle.std.specs.Prelude.{MatchResult, Result, Ok, Err}
use Rattle.session_files.specs.Loading.{HoldSessions, FirstAt, HasBadLine, first_of}
use Rattle.session_files.specs.Reading.{HoldFiles, HoldsFile, IsLoaded}
use Rattle.session_files.specs.Runs.{LoadsAll}
use Rattle.session_files.specs.Faults.{Stops, Unloaded, Unread, of_file}
use Rattle.session_files.specs.Progress.{LoadedSoFar}
use Rattle.session_files.proofs.Preparing.{sessions_of}

HoldFiles-next : (held : Option Contents) (firsts : List ℕ) (i : ℕ) (names : List (List ℕ)) (all : List LoadedFile) (name : List ℕ) (file : LoadedFile) (old mid new : List Refusal) → HoldFiles held firsts i names all old mid → HoldsFile held firsts (i + length names) name file mid new → HoldFiles held firsts i (names ++ name ∷ []) (all ++ file ∷ []) old new
HoldFiles-next held firsts i [] [] name file old mid new g h =
    (new, subst (λ (k : ℕ). HoldsFile held firsts k name file old new) (omega arith) (subst (λ (xs : List Refusal). HoldsFile held firsts (i + 0) name file xs new) g h), refl)
HoldFiles-next held firsts i [] (f ∷ fs) name file old mid new g h = absurd g
HoldFiles-next held firsts i (n ∷ ns) [] name file old mid new g h = absurd g
HoldFiles-next held firsts i (n ∷ ns) (f ∷ fs) name file old mid new g h =
    (g.0, g.1, HoldFiles-next held firsts (i + 1) ns fs name file g.0 mid new g.2 (subst (λ (k : ℕ). HoldsFile held firsts k name file mid new) (omega arith) h))

-- an item is the same, whatever stands for one that isn't there
same_item : {X : Type 0} (xs : List X) (k : ℕ) (d e : X) → k < length xs → get_or xs k d ≡ get_or xs k e
same_item [] k d e lt = absurd (omega (arith, lt))
same_item (x ∷ xs) zero d e lt = refl
same_item (x ∷ xs) (suc k) d e lt = same_item xs k d e (omega (arith, lt))

length-take-le : {X : Type 0} (xs : List X) (k : ℕ) → k ≤ length xs → length (take k xs) ≡ k
length-take-le xs zero le = refl
length-take-le [] (suc k) le = absurd (omega (arith, le))
length-take-le (x ∷ xs) (suc k) le = ap suc (length-take-le xs k (omega (arith, le)))

-- the first k items and the next one
take-next : {X : Type 0} (xs : List X) (k : ℕ) (x : X) → k < length xs → x ≡ get_or xs k x → take (k + 1) xs ≡ take k xs ++ x ∷ []
take-next xs k x lt is = rw add-one (take-suc xs k x lt ∙ ap (λ y. take k xs ++ y ∷ []) (sym is))

loaded-next : (names : List (List ℕ)) (k : ℕ) (name : List ℕ) (old mid new : List (List ℕ)) → k < length names → name ≡ get_or names k name → mid ≡ old ++ take k names → new ≡ mid ++ name ∷ [] → new ≡ old ++ take (k + 1) names
loaded-next names k name old mid new lt is m n = n ∙ (ap (λ xs. xs ++ name ∷ []) m ∙ (append_assoc old (take k names) (name ∷ []) ∙ ap (λ xs. old ++ xs) (sym (take-next names k name lt is))))

pub SoFar-start : (held : Option Contents) (firsts : List ℕ) (names : List (List ℕ)) (before : Loads) → LoadedSoFar held firsts names 0 before before []
SoFar-start held firsts names before = record { files = refl; loaded = sym (append-nil before.loaded); failed = refl }

pub SoFar-next : (held : Option Contents) (firsts : List ℕ) (names : List (List ℕ)) (k : ℕ) (before mid after : Loads) (name : List ℕ) (all : List LoadedFile) (file : LoadedFile) → k < length names → name ≡ get_or names k name → LoadedSoFar held firsts names k before mid all
    → HoldsFile held firsts (k + 1) name file mid.refused after.refused → LoadsOne name mid after → NoneFailed mid after → LoadedSoFar held firsts names (k + 1) before after (all ++ file ∷ [])
SoFar-next held firsts names k before mid after name all file lt is so h one none =
    let count : length (take k names) ≡ k = length-take-le names k (omega (arith, lt)) in
    let here : k + 1 ≡ 1 + length (take k names) = omega (arith, count) in
    record {
      files = subst (λ (xs : List (List ℕ)). HoldFiles held firsts 1 xs (all ++ file ∷ []) before.refused after.refused) (sym (take-next names k name lt is))
          (HoldFiles-next held firsts 1 (take k names) all name file before.refused mid.refused after.refused so.files (subst (λ (i : ℕ). HoldsFile held firsts i name file mid.refused after.refused) here h));
      loaded = loaded-next names k name before.loaded mid.loaded after.loaded lt is so.loaded one;
      failed = none ∙ so.failed;
    }

pub SoFar-all : (held : Option Contents) (firsts : List ℕ) (names : List (List ℕ)) (k : ℕ) (before after : Loads) (all : List LoadedFile) → length names ≤ k → LoadedSoFar held firsts names k before after all → HoldFiles held firsts 1 names all before.refused after.refused × LoadsAll names before after
SoFar-all held firsts names k before after all le so =
    let whole : take k names ≡ names = take_all k names le in
    let count : take (length names) names ≡ names = take_all (length names) names (omega arith) in
    (subst (λ (xs : List (List ℕ)). HoldFiles held firsts 1 xs all before.refused after.refused) whole so.files, (so.loaded ∙ ap (λ xs. before.loaded ++ xs) (whole ∙ sym count), so.failed))

first_at : (held : Option Contents) (firsts : List ℕ) (names : List (List ℕ)) (k i : ℕ) (before mid after : Loads) (name : List ℕ) (all : List LoadedFile) (P : List ℕ → Type 0) → i ≡ k + 1 → k < length names → name ≡ get_or names k name → LoadedSoFar held firsts names k before mid all → NoneRefused mid after → P name → FirstAt held firsts names i before.refused after.refused P
first_at held firsts names k i before mid after name all P e lt is so none p =
    (k, e, lt, sessions_of held firsts 1 (take k names) all before.refused after.refused (subst (λ (xs : List Refusal). HoldFiles held firsts 1 (take k names) all before.refused xs) (sym none) so.files), subst P (is ∙ same_item names k name [] lt) p)

-- where memory ran out in a load, the name was noted or not
memory : (names : List (List ℕ)) (k : ℕ) (name : List ℕ) (old mid new : List (List ℕ)) → k < length names → name ≡ get_or names k name → mid ≡ old ++ take k names → (new ≡ mid) ⊎ (new ≡ mid ++ name ∷ []) → (m : ℕ) × (new ≡ old ++ take m names)
memory names k name old mid new lt is m (inl e) = (k, e ∙ m)
memory names k name old mid new lt is m (inr e) = (k + 1, loaded-next names k name old mid new lt is m e)

-- why the loading of all files stopped, from why that of the next one did
pub SoFar-stops : (s : RunFault) (held : Option Contents) (firsts : List ℕ) (names : List (List ℕ)) (k : ℕ) (before mid after : Loads) (name : List ℕ) (all : List LoadedFile) → length names ≤ 64 → k < length names → name ≡ get_or names k name → LoadedSoFar held firsts names k before mid all
    → Unloaded s held firsts (k + 1) name mid after → Stops s held firsts names before after
SoFar-stops ReadFault held firsts names k before mid after name all few lt is so u =
    (k + 1, few, first_at held firsts names k (k + 1) before mid after name all (λ x. OnlyFailed x before after) refl lt is so u.2 (u.0 ∙ ap (λ xs. xs ++ name ∷ []) so.failed), loaded-next names k name before.loaded mid.loaded after.loaded lt is so.loaded u.1)
SoFar-stops (BadSession j n) held firsts names k before mid after name all few lt is so u = (
  few,
  first_at held firsts names k j before mid after name all (HasBadLine held firsts j n) u.0 lt is so u.4 (subst (λ (i : ℕ). HasBadLine held firsts i n name) (sym u.0) u.1),
  subst (λ (i : ℕ). LoadsSome i names before after) (sym u.0) (loaded-next names k name before.loaded mid.loaded after.loaded lt is so.loaded u.2),
  u.3 ∙ so.failed,
)
SoFar-stops (TooLong j) held firsts names k before mid after name all few lt is so u = (
  few,
  first_at held firsts names k j before mid after name all (IsTooLong held) u.0 lt is so u.4 u.1,
  subst (λ (i : ℕ). LoadsSome i names before after) (sym u.0) (loaded-next names k name before.loaded mid.loaded after.loaded lt is so.loaded u.2),
  u.3 ∙ so.failed,
)
SoFar-stops Memory held firsts names k before mid after name all few lt is so u = (memory names k name before.loaded mid.loaded after.loaded lt is so.loaded u.0, u.1 ∙ so.failed)
SoFar-stops TooManyFiles held firsts names k before mid after name all few lt is so u = absurd u
SoFar-stops (BadHistory j) held firsts names k before mid after name all few lt is so u = absurd u

-- memory ran out in the loop itself
pub SoFar-memory : (held : Option Contents) (firsts : List ℕ) (names : List (List ℕ)) (k : ℕ) (before after : Loads) (all : List LoadedFile) → LoadedSoFar held firsts names k before after all → Stops Memory held firsts names before after
SoFar-memory held firsts names k before after all so = ((k, so.loaded), so.failed)

-- why a load gave no session, from why its bytes are none
unloaded : (s : RunFault) (held : Option Contents) (firsts : List ℕ) (i : ℕ) (name bytes : List ℕ) (before after : Loads) → HoldsText held name bytes → LoadsOne name before after → NoneFailed before after → Unread s i (first_of firsts i) bytes before.refused after.refused → Unloaded s held firsts i name before after
unloaded (BadSession j n) held firsts i name bytes before after l one none u = (u.0, (bytes, l.0, u.1), one, none, u.2)
unloaded Memory held firsts i name bytes before after l one none u = (inr one, none)
unloaded (TooLong j) held firsts i name bytes before after l one none u = absurd u
unloaded ReadFault held firsts i name bytes before after l one none u = absurd u
unloaded TooManyFiles held firsts i name bytes before after l one none u = absurd u
unloaded (BadHistory j) held firsts i name bytes before after l one none u = absurd u

pub loaded_session : (held : Option Contents) (firsts : List ℕ) (i : ℕ) (name bytes : List ℕ) (before after : Loads) (r : Result LoadedFile RunFault) → HoldsText held name bytes → LoadsOne name before after → NoneFailed before after → MatchResult r (λ file. IsLoaded file i (first_of firsts i) bytes before.refused after.refused) (λ s. Unread s i (first_of firsts i) bytes before.refused after.refused)
    → MatchResult r (λ file. HoldsFile held firsts i name file before.refused after.refused × LoadsOne name before after × NoneFailed before after) (λ s. Unloaded s held firsts i name before after)
loaded_session held firsts i name bytes before after (Ok file) l one none h = ((bytes, l.0, h), one, none)
loaded_session held firsts i name bytes before after (Err s) l one none h = unloaded s held firsts i name bytes before after l one none h

-- or from why there are no bytes
unloaded_file : (f : FileFault) (held : Option Contents) (firsts : List ℕ) (i : ℕ) (name : List ℕ) (before after : Loads) → NoneRefused before after → IsCause f held name before after → Unloaded (of_file f i) held firsts i name before after
unloaded_file file.Failed held firsts i name before after same c = (c.0, c.1, same)
unloaded_file file.TooLong held firsts i name before after same c = (refl, c.0, c.1, c.2, same)
unloaded_file file.Memory held firsts i name before after same c = c

pub unloaded_as : (s : RunFault) (f : FileFault) (held : Option Contents) (firsts : List ℕ) (i : ℕ) (name : List ℕ) (before after : Loads) → s ≡ of_file f i → NoneRefused before after → IsCause f held name before after → Unloaded s held firsts i name before after
unloaded_as s f held firsts i name before after e same c = subst (λ (x : RunFault). Unloaded x held firsts i name before after) (sym e) (unloaded_file f held firsts i name before after same c)

pub count_sessions : (held : Option Contents) (firsts : List ℕ) (i : ℕ) (names : List (List ℕ)) (all : List (List Command)) (old new : List Refusal) → HoldSessions held firsts i names all old new → length all ≡ length names
count_sessions held firsts i [] [] old new h = refl
count_sessions held firsts i [] (c ∷ cs) old new h = absurd h
count_sessions held firsts i (n ∷ ns) [] old new h = absurd h
count_sessions held firsts i (n ∷ ns) (c ∷ cs) old new h = ap suc (count_sessions held firsts (i + 1) ns cs h.0 new h.2)

-- the next one, as a loop loads it
pub SoFar-loaded : (held now : Option Contents) (firsts : List ℕ) (names : List (List ℕ)) (k i : ℕ) (before mid after : Loads) (name given : List ℕ) (all more : List LoadedFile) (file : LoadedFile) → now ≡ held → i ≡ k → given ≡ name → k < length names → name ≡ get_or names k name → LoadedSoFar held firsts names k before mid all → more ≡ all ++ file ∷ []
    → HoldsFile now firsts (i + 1) given file mid.refused after.refused → LoadsOne given mid after → NoneFailed mid after → LoadedSoFar held firsts names (k + 1) before after more
SoFar-loaded held now firsts names k i before mid after name given all more file eh ei eg lt is so em h one none =
    let there = subst (λ (x : Option Contents). HoldsFile x firsts (k + 1) name file mid.refused after.refused) eh (subst (λ (j : ℕ). HoldsFile now firsts (j + 1) name file mid.refused after.refused) ei (subst (λ (n : List ℕ). HoldsFile now firsts (i + 1) n file mid.refused after.refused) eg h)) in
    subst (λ (x : List LoadedFile). LoadedSoFar held firsts names (k + 1) before after x) (sym em)
    (SoFar-next held firsts names k before mid after name all file lt is so there (subst (λ (n : List ℕ). LoadsOne n mid after) eg one) none)

pub SoFar-unloaded : (s : RunFault) (held now : Option Contents) (firsts : List ℕ) (names : List (List ℕ)) (k i : ℕ) (before mid after : Loads) (name given : List ℕ) (all : List LoadedFile) → now ≡ held → i ≡ k → given ≡ name → length names ≤ 64 → k < length names → name ≡ get_or names k name → LoadedSoFar held firsts names k before mid all
    → Unloaded s now firsts (i + 1) given mid after → Stops s held firsts names before after
SoFar-unloaded s held now firsts names k i before mid after name given all eh ei eg few lt is so u =
    SoFar-stops s held firsts names k before mid after name all few lt is so
    (subst (λ (x : Option Contents). Unloaded s x firsts (k + 1) name mid after) eh (subst (λ (j : ℕ). Unloaded s now firsts (j + 1) name mid after) ei (subst (λ (n : List ℕ). Unloaded s now firsts (i + 1) n mid after) eg u)))
