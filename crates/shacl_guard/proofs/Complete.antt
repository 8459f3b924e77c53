-- Where the words name files that are there, nothing but what they give is due, or the first bad place of their history, or what is
-- wrong with the files of a validation.
use Rattle.std.proofs.Common.{◌≡◌, ◌≢◌, ℕ, zero, suc, ◌+◌, ◌<◌, ◌≤◌, List, [], ◌∷◌, ◌++◌, length, length-append, take, get_or, Option, Some, None, Ok, Err, refl, inl, inr, sym, ap, subst, ◌∙◌, arith}
use Rattle.std.specs.Prelude.{true, false}
use Rattle.std.proofs.lemmas.List.{take_all}
use Rattle.store_model.specs.declared.event.Limits.{Limits}
use Rattle.session_reader.specs.declared.read_command.ReadCommand.{ReadCommand}
use Rattle.session_reader.specs.SessionFile.{session_of}
use Rattle.outside.specs.Faults.{Refusal}
use Rattle.outside.specs.Files.{Contents, Loads as Gives}
use Rattle.input_files.specs.Lengths.{IsTooLong, room}
use Rattle.input_files.specs.Loads.{Loads, OnlyFailed}
use Rattle.session_files.specs.declared.fault.RunFault.{RunFault}
use Rattle.session_files.specs.declared.fault.RunFault.TheVariants as run
use Rattle.session_files.specs.declared.session_run.SessionRun.{SessionRun}
use Rattle.session_files.specs.Loading.{FirstAt, HasBadLine, IsFirstLong}
use Rattle.session_files.specs.Runs.{IsBadHistory}
use Rattle.session_files.specs.Faults.{IsRefused, SomeFailed, StopsRun}
use Rattle.validate_command.specs.declared.fault.ValidateFault.{ValidateFault}
use Rattle.validate_command.specs.declared.fault.ValidateFault.TheVariants as validation
use Rattle.validate_command.specs.declared.validated_files.ValidatedFiles.{ValidatedFiles}
use Rattle.validate_command.specs.declared.validated_files.VerifiedFiles.{VerifiedFiles}
use Rattle.follow_command.specs.declared.fault.FollowFault.{FollowFault}
use Rattle.follow_command.specs.declared.fault.FollowFault.TheVariants as following
use Rattle.follow_command.specs.declared.files.FollowedFiles.{FollowedFiles}
use Rattle.follow_command.specs.Faults as followed
use Rattle.follow_command.specs.Faults.{StopsFollow}
use Rattle.file_validation.specs.declared.validating.EvidenceVerdict.{EvidenceVerdict}
use Rattle.file_validation.specs.declared.validating.EvidenceVerdict.TheVariants.{Verified, Wrong}
use Rattle.validate_command.specs.Faults.{IsFirst, StopsValidation}
use Rattle.validate_command.specs.Verified.{IsFirstOf, StopsVerification}
use Rattle.shacl_guard.specs.declared.request.PlainRequest.{PlainRequest}
use Rattle.shacl_guard.specs.declared.request.PlainRequest.TheVariants.{Sessions, Validation, Explanation, Verification, Following, Load}
use Rattle.shacl_guard.specs.declared.status.Status.{Status}
use Rattle.shacl_guard.specs.declared.status.Status.TheVariants.{Done, Invalid, Usage, ReadFault, WriteFault, BadSession, Memory, TooLong, TooManyFiles, BadHistory, BadInput, BadLog, LogSpent, LogTooLarge, LogStopped, BadOrder, BadEvidence}
use Rattle.shacl_guard.specs.Statuses.{error_line, of_following, of_run, of_validation}
use Rattle.shacl_guard.specs.Due.{Fails, FailsLoad, IsDueOf, IsTold, TellsNone}
use Rattle.shacl_guard.specs.Outcome.{AreThere, HasFiles, IsAnswered, IsHistoryThere, IsThere}

-- a file that is there and holds session i
abbrev HoldsSession : (List ℕ → Option (List ℕ)) → ℕ → List ℕ → Type 0
HoldsSession held i name = (bytes : List ℕ) × (commands : List ReadCommand) × (held name ≡ Some bytes) × (length bytes < room) × (session_of i 1 bytes ≡ Ok commands)

there_at : (held : List ℕ → Option (List ℕ)) (i : ℕ) (names : List (List ℕ)) (k : ℕ) → AreThere held i names → k < length names → HoldsSession held (i + k) (get_or names k [])
there_at held i [] k h lt = absurd (omega (arith, lt))
there_at held i (name ∷ names) zero h lt = subst (λ (j : ℕ). HoldsSession held j name) (omega arith) h.0
there_at held i (name ∷ names) (suc k) h lt = subst (λ (j : ℕ). HoldsSession held j (get_or names k [])) (omega arith) (there_at held (i + 1) names k h.1 (omega (arith, lt)))

-- what was loaded is the whole file
whole : (held : List ℕ → Option (List ℕ)) (name loaded bytes : List ℕ) → held name ≡ Some bytes → length bytes < room → Gives (Some held) name room loaded → loaded ≡ bytes
whole held name loaded bytes e short l =
    let contents : Some l.0 ≡ Some bytes = sym l.1 ∙ e in
    let all : l.0 ≡ bytes = cc in
    l.2 ∙ (ap (take room) all ∙ take_all room bytes (omega (arith, short)))

short_enough : (held : List ℕ → Option (List ℕ)) (name bytes : List ℕ) → held name ≡ Some bytes → length bytes < room → IsTooLong (Some held) name → ⊥
short_enough held name bytes e short t = let same = ap length (whole held name t.0 bytes e short t.1) in omega (arith, same, t.2, short)

never_bad : (held : List ℕ → Option (List ℕ)) (i n : ℕ) (name : List ℕ) → HoldsSession held i name → HasBadLine (Some held) [] i n name → ⊥
never_bad held i n name h b =
    let e = whole held name b.0 h.0 h.2 h.3 b.1 in
    let no : Err n ≡ Ok h.1 = sym b.2.1 ∙ (ap (session_of i 1) e ∙ h.4) in cc

-- no session file is too long
never_long : (held : List ℕ → Option (List ℕ)) (names : List (List ℕ)) (i : ℕ) (old new : List Refusal) → AreThere held 1 names → FirstAt (Some held) [] names i old new (IsTooLong (Some held)) → ⊥
never_long held names i old new there f =
    let one = there_at held 1 names f.0 there f.2 in
    short_enough held (get_or names f.0 []) one.0 one.2 one.3 f.4

-- nor is any file
never_first_long : (held : List ℕ → Option (List ℕ)) (history : Option (List ℕ)) (names : List (List ℕ)) (i : ℕ) (old new : List Refusal) → IsHistoryThere held history → AreThere held 1 names → IsFirstLong (Some held) [] history names i old new → ⊥
never_first_long held None names i old new h there f = never_long held names i old new there f
never_first_long held (Some name) names i old new h there (inl f) = short_enough held name h.0 h.1 h.2 f.1
never_first_long held (Some name) names i old new h there (inr f) = never_long held names f.0 old new there f.3

-- why such a request isn't refused, but for its history
never_many : (held : List ℕ → Option (List ℕ)) (r : SessionRun) (old new : List Refusal) → length r.files ≤ 64 → IsRefused (Some held) [] r run.TooManyFiles old new → ⊥
never_many held r old new few h = omega (arith, few, h.0)

never_bad_session : (held : List ℕ → Option (List ℕ)) (r : SessionRun) (i n : ℕ) (old new : List Refusal) → AreThere held 1 r.files → IsRefused (Some held) [] r (run.BadSession i n) old new → ⊥
never_bad_session held r i n old new there h =
    let f = h.2 in
    let one = there_at held 1 r.files f.0 there f.2 in
    never_bad held i n (get_or r.files f.0 []) (subst (λ (j : ℕ). HoldsSession held j (get_or r.files f.0 [])) (omega (arith, f.1)) one) f.4

has_history : (held : Option Contents) (l : Limits) (history : Option (List ℕ)) (names : List (List ℕ)) (k : ℕ) (old new : List Refusal) → IsBadHistory held l history names k old new → history ≢ None
has_history held l None names k old new h = absurd h
has_history held l (Some name) names k old new h = λ no. cc

-- a status without a line is none that is due as the line of an error
no_line : (s t : Status) (text : List ℕ) → s ≡ t → error_line t ≡ None → error_line s ≡ Some text → ⊥
no_line s t text e none some = let no : None ≡ Some text = sym none ∙ subst (λ (x : Status). error_line x ≡ Some text) e some in cc

run_complete : (fault : RunFault) (held : List ℕ → Option (List ℕ)) (r : SessionRun) (s : Status) (before after : Loads) (text : List ℕ) → HasFiles (Some held) (Some (Sessions r)) → s ≡ of_run fault → error_line s ≡ Some text → StopsRun fault (Some held) [] r before after → IsAnswered (Some (Sessions r)) s
run_complete run.ReadFault held r s before after text there e l h = absurd (no_line s ReadFault text e refl l)
run_complete run.Memory held r s before after text there e l h = absurd (no_line s Memory text e refl l)
run_complete run.TooManyFiles held r s before after text there e l h = absurd (never_many held r before.refused after.refused there.1 h.0)
run_complete (run.BadSession i n) held r s before after text there e l h = absurd (never_bad_session held r i n before.refused after.refused there.2 h.0)
run_complete (run.TooLong f) held r s before after text there e l h = absurd (never_first_long held r.history r.files f before.refused after.refused there.0 there.2 h.0.1)
run_complete (run.BadHistory k) held r s before after text there e l h = inr (inr (k, has_history (Some held) r.limits r.history r.files k before.refused after.refused h.0.1, e))

-- neither file is too long
never_first : (held : List ℕ → Option (List ℕ)) (v : ValidatedFiles) (f : ℕ) → IsThere held v.data_file → IsThere held v.shapes_file → IsFirst (Some held) v f (IsTooLong (Some held)) → ⊥
never_first held v f d s (inl h) = short_enough held v.data_file d.0 d.1 d.2 h.1
never_first held v f d s (inr h) = short_enough held v.shapes_file s.0 s.1 s.2 h.2

validation_complete : (fault : ValidateFault) (held : List ℕ → Option (List ℕ)) (v : ValidatedFiles) (s : Status) (before after : Loads) (text : List ℕ) → HasFiles (Some held) (Some (Validation v)) → s ≡ of_validation fault → error_line s ≡ Some text → StopsValidation fault (Some held) v before after → IsAnswered (Some (Validation v)) s
validation_complete validation.ReadFault held v s before after text there e l h = absurd (no_line s ReadFault text e refl l)
validation_complete validation.Memory held v s before after text there e l h = absurd (no_line s Memory text e refl l)
validation_complete (validation.TooLong f) held v s before after text there e l h = absurd (never_first held v f there.0 there.1 h.0)
validation_complete (validation.BadInput bad) held v s before after text there e l h = inr (inr (inr (bad, e)))

-- none of the three files is too long
never_first_of : (held : List ℕ → Option (List ℕ)) (v : VerifiedFiles) (f : ℕ) → IsThere held v.graphs.data_file → IsThere held v.graphs.shapes_file → IsThere held v.evidence_file → IsFirstOf (Some held) v f (IsTooLong (Some held)) → ⊥
never_first_of held v f d s e (inl h) = never_first held v.graphs f d s h
never_first_of held v f d s e (inr h) = short_enough held v.evidence_file e.0 e.1 e.2 h.2

verification_complete : (fault : ValidateFault) (held : List ℕ → Option (List ℕ)) (v : VerifiedFiles) (s : Status) (before after : Loads) (text : List ℕ) → HasFiles (Some held) (Some (Verification v)) → s ≡ of_validation fault → error_line s ≡ Some text → StopsVerification fault (Some held) v before after → IsAnswered (Some (Verification v)) s
verification_complete validation.ReadFault held v s before after text there e l h = absurd (no_line s ReadFault text e refl l)
verification_complete validation.Memory held v s before after text there e l h = absurd (no_line s Memory text e refl l)
verification_complete (validation.TooLong f) held v s before after text there e l h = absurd (never_first_of held v f there.0 there.1 there.2 h.0)
verification_complete (validation.BadInput bad) held v s before after text there e l h = inr (inr (inl (bad, e)))

verdict_complete : (verdict : EvidenceVerdict) (v : VerifiedFiles) (s : Status) (text : List ℕ) → TellsNone verdict s → error_line s ≡ Some text → IsAnswered (Some (Verification v)) s
verdict_complete (Verified n) v s text t l = absurd (no_line s Memory text t refl l)
verdict_complete (Wrong i) v s text t l = inr (inr (inr (i, t)))

told_complete : (verdict : EvidenceVerdict) (v : VerifiedFiles) (s : Status) (text : List ℕ) → IsTold verdict s text → IsAnswered (Some (Verification v)) s
told_complete (Verified n) v s text t = inl t.0
told_complete (Wrong i) v s text t = absurd t

-- neither the log nor the order is too long
never_first_followed : (held : List ℕ → Option (List ℕ)) (v : FollowedFiles) (f : ℕ) → IsThere held v.log_file → IsThere held v.order_file → followed.IsFirst (Some held) v f (IsTooLong (Some held)) → ⊥
never_first_followed held v f d s (inl h) = short_enough held v.log_file d.0 d.1 d.2 h.1
never_first_followed held v f d s (inr h) = short_enough held v.order_file s.0 s.1 s.2 h.2

following_complete : (fault : FollowFault) (held : List ℕ → Option (List ℕ)) (v : FollowedFiles) (s : Status) (before after : Loads) (text : List ℕ) → HasFiles (Some held) (Some (Following v)) → s ≡ of_following fault → error_line s ≡ Some text → StopsFollow fault (Some held) v before after → IsAnswered (Some (Following v)) s
following_complete following.ReadFault held v s before after text there e l h = absurd (no_line s ReadFault text e refl l)
following_complete following.Memory held v s before after text there e l h = absurd (no_line s Memory text e refl l)
following_complete (following.TooLong f) held v s before after text there e l h = absurd (never_first_followed held v f there.0 there.1 h.0)
following_complete (following.BadLog n) held v s before after text there e l h = inr (inr (inl (n, e)))
following_complete (following.BadOrder k) held v s before after text there e l h = inr (inr (inr (k, e)))

-- a generated load is run, or memory runs out
load_complete : (held : Option Contents) (n : ℕ) (s : Status) (before after : Loads) (text : List ℕ) → IsDueOf held (Some (Load n)) s before after text → IsAnswered (Some (Load n)) s
load_complete held n s before after text (inl g) = inl g.0
load_complete held n s before after text (inr d) = inr d.0.0

pub complete : (held : Option Contents) (q : Option PlainRequest) (s : Status) (before after : Loads) (text : List ℕ) → IsDueOf held q s before after text → HasFiles held q → IsAnswered q s
complete None None s before after text d there = absurd there
complete None (Some (Sessions r)) s before after text d there = absurd there
complete None (Some (Validation v)) s before after text d there = absurd there
complete None (Some (Explanation v)) s before after text d there = absurd there
complete None (Some (Verification v)) s before after text d there = absurd there
complete None (Some (Following f)) s before after text d there = absurd there
complete None (Some (Load n)) s before after text d there = load_complete None n s before after text d
complete (Some held) None s before after text d there = absurd there
complete (Some held) (Some (Load n)) s before after text d there = load_complete (Some held) n s before after text d
complete (Some held) (Some (Sessions r)) s before after text (inl g) there = inl g.0
complete (Some held) (Some (Sessions r)) s before after text (inr d) there = run_complete d.0.0 held r s before after text there d.0.1 d.1 d.0.2
complete (Some held) (Some (Validation v)) s before after text (inl (true, e, g)) there = inl e
complete (Some held) (Some (Validation v)) s before after text (inl (false, e, g)) there = inr (inl e)
complete (Some held) (Some (Validation v)) s before after text (inr d) there = validation_complete d.0.0 held v s before after text there d.0.1 d.1 d.0.2
complete (Some held) (Some (Explanation v)) s before after text (inl (true, e, g)) there = inl e
complete (Some held) (Some (Explanation v)) s before after text (inl (false, e, g)) there = inr (inl e)
complete (Some held) (Some (Explanation v)) s before after text (inr d) there = validation_complete d.0.0 held v s before after text there d.0.1 d.1 d.0.2
complete (Some held) (Some (Verification v)) s before after text (inl g) there = told_complete g.0 v s text g.2
complete (Some held) (Some (Verification v)) s before after text (inr (inl d, l)) there = verification_complete d.0 held v s before after text there d.1 l d.2
complete (Some held) (Some (Verification v)) s before after text (inr (inr d, l)) there = verdict_complete d.0 v s text d.2 l
complete (Some held) (Some (Following v)) s before after text (inl g) there = inl g.0
complete (Some held) (Some (Following v)) s before after text (inr d) there = following_complete d.0.0 held v s before after text there d.0.1 d.1 d.0.2

-- memory ran out, without a text
pub memory_answer : (held : Option Contents) (q : Option PlainRequest) → HasFiles held q → IsAnswered q Memory
memory_answer None None there = absurd there
memory_answer None (Some (Sessions r)) there = absurd there
memory_answer None (Some (Validation v)) there = absurd there
memory_answer None (Some (Explanation v)) there = absurd there
memory_answer None (Some (Verification v)) there = absurd there
memory_answer None (Some (Following f)) there = absurd there
memory_answer None (Some (Load n)) there = inr refl
memory_answer (Some held) None there = absurd there
memory_answer (Some held) (Some (Load n)) there = inr refl
memory_answer (Some held) (Some (Sessions r)) there = inr (inl refl)
memory_answer (Some held) (Some (Validation v)) there = inr (inr (inl refl))
memory_answer (Some held) (Some (Explanation v)) there = inr (inr (inl refl))
memory_answer (Some held) (Some (Verification v)) there = inr (inl refl)
memory_answer (Some held) (Some (Following v)) there = inr (inl refl)

-- A load that failed joined the list of those that did.

longer : (xs : List (List ℕ)) (name : List ℕ) → xs ++ name ∷ [] ≡ xs → ⊥
longer xs name e = let l = length-append xs (name ∷ []) in let same = ap length e in omega (arith, l, same)

one_failed : (before after : Loads) (name : List ℕ) → after.failed ≡ before.failed → OnlyFailed name before after → ⊥
one_failed before after name same only = longer before.failed name (sym only ∙ same)

some_failed : (held : Option Contents) (history : Option (List ℕ)) (names : List (List ℕ)) (before after : Loads) → after.failed ≡ before.failed → SomeFailed held [] history names before after → ⊥
some_failed held None names before after same h = let f = h.2 in one_failed before after (get_or names f.0 []) same f.4
some_failed held (Some name) names before after same (inl h) = one_failed before after name same h.1
some_failed held (Some name) names before after same (inr h) = let f = h.3 in one_failed before after (get_or names f.0 []) same f.4

run_failed : (fault : RunFault) (held : Option Contents) (r : SessionRun) (before after : Loads) → after.failed ≡ before.failed → ReadFault ≡ of_run fault → StopsRun fault held [] r before after → ⊥
run_failed run.ReadFault held r before after same e h = some_failed held r.history r.files before after same h
run_failed run.Memory held r before after same e h = cc
run_failed run.TooManyFiles held r before after same e h = cc
run_failed (run.TooLong f) held r before after same e h = cc
run_failed (run.BadSession i n) held r before after same e h = cc
run_failed (run.BadHistory k) held r before after same e h = cc

first_failed : (held : Option Contents) (v : ValidatedFiles) (f : ℕ) (before after : Loads) → after.failed ≡ before.failed → IsFirst held v f (λ name. OnlyFailed name before after) → ⊥
first_failed held v f before after same (inl h) = one_failed before after v.data_file same h.1
first_failed held v f before after same (inr h) = one_failed before after v.shapes_file same h.2

validation_failed : (fault : ValidateFault) (held : Option Contents) (v : ValidatedFiles) (before after : Loads) → after.failed ≡ before.failed → ReadFault ≡ of_validation fault → StopsValidation fault held v before after → ⊥
validation_failed validation.ReadFault held v before after same e h = first_failed held v h.0 before after same h.1
validation_failed validation.Memory held v before after same e h = cc
validation_failed (validation.TooLong f) held v before after same e h = cc
validation_failed (validation.BadInput bad) held v before after same e h = cc

first_failed_of : (held : Option Contents) (v : VerifiedFiles) (f : ℕ) (before after : Loads) → after.failed ≡ before.failed → IsFirstOf held v f (λ name. OnlyFailed name before after) → ⊥
first_failed_of held v f before after same (inl h) = first_failed held v.graphs f before after same h
first_failed_of held v f before after same (inr h) = one_failed before after v.evidence_file same h.2

verification_failed : (fault : ValidateFault) (held : Option Contents) (v : VerifiedFiles) (before after : Loads) → after.failed ≡ before.failed → ReadFault ≡ of_validation fault → StopsVerification fault held v before after → ⊥
verification_failed validation.ReadFault held v before after same e h = first_failed_of held v h.0 before after same h.1
verification_failed validation.Memory held v before after same e h = cc
verification_failed (validation.TooLong f) held v before after same e h = cc
verification_failed (validation.BadInput bad) held v before after same e h = cc

verdict_failed : (verdict : EvidenceVerdict) → TellsNone verdict ReadFault → ⊥
verdict_failed (Verified n) t = let no : ReadFault ≡ Memory = t in cc
verdict_failed (Wrong i) t = let no : ReadFault ≡ BadEvidence i = t in cc

first_failed_followed : (held : Option Contents) (v : FollowedFiles) (f : ℕ) (before after : Loads) → after.failed ≡ before.failed → followed.IsFirst held v f (λ name. OnlyFailed name before after) → ⊥
first_failed_followed held v f before after same (inl h) = one_failed before after v.log_file same h.1
first_failed_followed held v f before after same (inr h) = one_failed before after v.order_file same h.2

following_failed : (fault : FollowFault) (held : Option Contents) (v : FollowedFiles) (before after : Loads) → after.failed ≡ before.failed → ReadFault ≡ of_following fault → StopsFollow fault held v before after → ⊥
following_failed following.ReadFault held v before after same e h = first_failed_followed held v h.0 before after same h.1
following_failed following.Memory held v before after same e h = cc
following_failed (following.TooLong f) held v before after same e h = cc
following_failed (following.BadLog n) held v before after same e h = cc
following_failed (following.BadOrder k) held v before after same e h = cc

load_failed : (held : Option Contents) (q : Option PlainRequest) (before after : Loads) → after.failed ≡ before.failed → FailsLoad held q before after → ⊥
load_failed held None before after same h = h
load_failed held (Some (Sessions r)) before after same h = run_failed h.0 held r before after same h.1 h.2
load_failed held (Some (Validation v)) before after same h = validation_failed h.0 held v before after same h.1 h.2
load_failed held (Some (Explanation v)) before after same h = validation_failed h.0 held v before after same h.1 h.2
load_failed held (Some (Verification v)) before after same (inl h) = verification_failed h.0 held v before after same h.1 h.2
load_failed held (Some (Verification v)) before after same (inr h) = verdict_failed h.0 h.2
load_failed held (Some (Following v)) before after same h = following_failed h.0 held v before after same h.1 h.2
load_failed held (Some (Load n)) before after same h = let no : ReadFault ≡ Memory = h.0 in cc

-- nothing was due, and no load failed
pub not_failed : (s : Status) (held : Option Contents) (q : Option PlainRequest) (before after : Loads) → Fails s held q before after → HasFiles held q → after.failed ≡ before.failed → IsAnswered q s
not_failed ReadFault held q before after f there same = absurd (load_failed held q before after same f)
not_failed Memory held q before after f there same = memory_answer held q there
not_failed Done held q before after f there same = absurd f
not_failed Invalid held q before after f there same = absurd f
not_failed Usage held q before after f there same = absurd f
not_failed WriteFault held q before after f there same = absurd f
not_failed (BadSession i n) held q before after f there same = absurd f
not_failed (TooLong i) held q before after f there same = absurd f
not_failed TooManyFiles held q before after f there same = absurd f
not_failed (BadHistory k) held q before after f there same = absurd f
not_failed (BadInput bad) held q before after f there same = absurd f
not_failed (BadOrder i) held q before after f there same = absurd f
not_failed (BadEvidence i) held q before after f there same = absurd f
not_failed (BadLog i) held q before after f there same = absurd f
not_failed LogSpent held q before after f there same = absurd f
not_failed LogTooLarge held q before after f there same = absurd f
not_failed LogStopped held q before after f there same = absurd f
