-- What is due for the words, from what their request gives.
use Rattle.std.proofs.Common.{◌≡◌, ◌∙◌, ℕ, List, [], Option, Some, None, refl, sym, ap, subst, inl, inr}
use Rattle.std.proofs.lemmas.List.{append-nil}
use Rattle.std.specs.Prelude.{◌≢◌, ◌⊎◌, true, false, MatchResult, Result, Ok, Err}
use Rattle.outside.specs.Faults.{Refusal}
use Rattle.outside.specs.Files.{Contents}
use Rattle.session_reader.specs.Checking.{OnlyGrows}
use Rattle.input_files.specs.Loads.{Loads, NoneRefused}
use Rattle.follow_command.specs.declared.fault.FollowFault.{FollowFault}
use Rattle.follow_command.specs.declared.fault.FollowFault.TheVariants as following
use Rattle.follow_command.specs.declared.files.FollowedFiles.{FollowedFiles}
use Rattle.follow_command.specs.Faults.{StopsFollow}
use Rattle.follow_command.specs.Followed.{AreFollowed}
use Rattle.file_validation.specs.declared.fault.InputFault.{InputFault}
use Rattle.file_validation.specs.declared.fault.InputFault.TheVariants as texts
use Rattle.file_validation.specs.declared.validating.Explanation.{Explanation as Evidence}
use Rattle.file_validation.specs.declared.validating.Validation.{Validation as Outcome}
use Rattle.file_validation.specs.declared.validating.EvidenceVerdict.{EvidenceVerdict}
use Rattle.file_validation.specs.declared.validating.EvidenceVerdict.TheVariants.{Verified, Wrong}
use Rattle.file_validation.specs.Validations.{IsCause}
use Rattle.session_files.specs.declared.fault.RunFault.{RunFault}
use Rattle.session_files.specs.declared.fault.RunFault.TheVariants as run
use Rattle.session_files.specs.declared.session_run.SessionRun.{SessionRun}
use Rattle.session_files.specs.Faults.{IsStopped, StopsRun, count_loaded}
use Rattle.validate_command.specs.declared.fault.ValidateFault.{ValidateFault}
use Rattle.validate_command.specs.declared.fault.ValidateFault.TheVariants as validation
use Rattle.validate_command.specs.declared.validated_files.ValidatedFiles.{ValidatedFiles}
use Rattle.validate_command.specs.declared.validated_files.VerifiedFiles.{VerifiedFiles}
use Rattle.validate_command.specs.Validated.{AreExplained, AreValidated}
use Rattle.validate_command.specs.Faults.{StopsValidation}
use Rattle.validate_command.specs.Verified.{AreVerified, StopsVerification}
use Rattle.shacl_guard.specs.declared.request.PlainRequest.{PlainRequest}
use Rattle.shacl_guard.specs.declared.request.PlainRequest.TheVariants.{Sessions, Validation, Explanation, Verification, Following, Load}
use Rattle.shacl_guard.specs.declared.status.Status.{Status}
use Rattle.shacl_guard.specs.declared.status.Status.TheVariants.{Done, Invalid, Usage, ReadFault, WriteFault, BadSession, Memory, TooLong, TooManyFiles, BadHistory, BadInput, BadLog, LogSpent, LogTooLarge, LogStopped, BadOrder, BadEvidence}
use Rattle.shacl_guard.specs.Requests.{request_of}
use Rattle.shacl_guard.specs.Statuses.{error_line, of_following, of_run, of_validation}
use Rattle.shacl_guard.specs.Due.{Fails, Gives, IsDue, IsDueOf, IsRequestDue, IsTold, LoadsNone, RunsOut, StopsRequest, TellsNone, TellsNothing}
use Rattle.shacl_guard.specs.Outcome.{Call, IsOutcome, IsWritten, PrintsAll}

-- nothing was loaded
pub nothing : (q : Option PlainRequest) (before after : Loads) → after ≡ before → RunsOut q before after
nothing q before after e = ((0, ap (λ (l : Loads). l.loaded) e ∙ sym (append-nil before.loaded)), ap (λ (l : Loads). l.failed) e)

-- A status without a line of its own is of a failed load, or of want of memory.

some_line : (s t : Status) (text : List ℕ) → s ≡ t → error_line s ≡ None → error_line t ≡ Some text → ⊥
some_line s t text e none some = let no : None ≡ Some text = sym (subst (λ (x : Status). error_line x ≡ None) e none) ∙ some in cc

run_fails : (fault : RunFault) (held : Option Contents) (r : SessionRun) (before after : Loads) → StopsRun fault held [] r before after → error_line (of_run fault) ≡ None → Fails (of_run fault) held (Some (Sessions r)) before after
run_fails run.ReadFault held r before after h none = (run.ReadFault, refl, h)
run_fails run.Memory held r before after h none = h
run_fails run.TooManyFiles held r before after h none = cc
run_fails (run.TooLong f) held r before after h none = cc
run_fails (run.BadSession i n) held r before after h none = cc
run_fails (run.BadHistory k) held r before after h none = cc

validation_fails : (fault : ValidateFault) (held : Option Contents) (v : ValidatedFiles) (before after : Loads) → StopsValidation fault held v before after → error_line (of_validation fault) ≡ None → Fails (of_validation fault) held (Some (Validation v)) before after
validation_fails validation.ReadFault held v before after h none = (validation.ReadFault, refl, h)
validation_fails validation.Memory held v before after h none = (h.0, h.1)
validation_fails (validation.TooLong f) held v before after h none = cc
validation_fails (validation.BadInput bad) held v before after h none = cc

explanation_fails : (fault : ValidateFault) (held : Option Contents) (v : ValidatedFiles) (before after : Loads) → StopsValidation fault held v before after → error_line (of_validation fault) ≡ None → Fails (of_validation fault) held (Some (Explanation v)) before after
explanation_fails validation.ReadFault held v before after h none = (validation.ReadFault, refl, h)
explanation_fails validation.Memory held v before after h none = (h.0, h.1)
explanation_fails (validation.TooLong f) held v before after h none = cc
explanation_fails (validation.BadInput bad) held v before after h none = cc

verification_fails : (fault : ValidateFault) (held : Option Contents) (v : VerifiedFiles) (before after : Loads) → StopsVerification fault held v before after → error_line (of_validation fault) ≡ None → Fails (of_validation fault) held (Some (Verification v)) before after
verification_fails validation.ReadFault held v before after h none = inl (validation.ReadFault, refl, h)
verification_fails validation.Memory held v before after h none = (h.0, h.1)
verification_fails (validation.TooLong f) held v before after h none = cc
verification_fails (validation.BadInput bad) held v before after h none = cc

-- a verdict without a text or a line
verdict_fails : (verdict : EvidenceVerdict) (s : Status) (held : Option Contents) (v : VerifiedFiles) (before after : Loads) → AreVerified held v before after verdict → TellsNone verdict s → error_line s ≡ None → Fails s held (Some (Verification v)) before after
verdict_fails (Verified n) s held v before after h t none = subst (λ (x : Status). Fails x held (Some (Verification v)) before after) (sym t) ((3, h.5.0), h.5.1)
verdict_fails (Wrong i) s held v before after h t none = let no : None ≡ Some _ = sym none ∙ ap error_line t in cc

following_fails : (fault : FollowFault) (held : Option Contents) (f : FollowedFiles) (before after : Loads) → StopsFollow fault held f before after → NoneRefused before after → error_line (of_following fault) ≡ None → Fails (of_following fault) held (Some (Following f)) before after
following_fails following.ReadFault held f before after h same none = (following.ReadFault, refl, h, same)
following_fails following.Memory held f before after h same none = (h.0, h.1)
following_fails (following.TooLong i) held f before after h same none = cc
following_fails (following.BadLog n) held f before after h same none = cc
following_fails (following.BadOrder k) held f before after h same none = cc

-- a generated load loads nothing
load_out : (n : ℕ) (before after : Loads) → LoadsNone before after → RunsOut (Some (Load n)) before after
load_out n before after h = ((0, h.0 ∙ sym (append-nil before.loaded)), h.1)

request_fails : (s : Status) (held : Option Contents) (q : PlainRequest) (before after : Loads) → error_line s ≡ None → StopsRequest s held q before after → Fails s held (Some q) before after
request_fails s held (Sessions r) before after none h =
    subst (λ (x : Status). Fails x held (Some (Sessions r)) before after) (sym h.1) (run_fails h.0 held r before after h.2 (subst (λ (x : Status). error_line x ≡ None) h.1 none))
request_fails s held (Validation v) before after none h =
    subst (λ (x : Status). Fails x held (Some (Validation v)) before after) (sym h.1) (validation_fails h.0 held v before after h.2 (subst (λ (x : Status). error_line x ≡ None) h.1 none))
request_fails s held (Explanation v) before after none h =
    subst (λ (x : Status). Fails x held (Some (Explanation v)) before after) (sym h.1) (explanation_fails h.0 held v before after h.2 (subst (λ (x : Status). error_line x ≡ None) h.1 none))
request_fails s held (Verification v) before after none (inl h) =
    subst (λ (x : Status). Fails x held (Some (Verification v)) before after) (sym h.1) (verification_fails h.0 held v before after h.2 (subst (λ (x : Status). error_line x ≡ None) h.1 none))
request_fails s held (Verification v) before after none (inr h) = verdict_fails h.0 s held v before after h.1 h.2 none
request_fails s held (Following f) before after none h =
    subst (λ (x : Status). Fails x held (Some (Following f)) before after) (sym h.1) (following_fails h.0 held f before after h.2 h.3 (subst (λ (x : Status). error_line x ≡ None) h.1 none))
request_fails s held (Load n) before after none h = subst (λ (x : Status). Fails x held (Some (Load n)) before after) (sym h.0) (load_out n before after h.1)

-- Where memory runs out before the line of an error is made.

stopped_out : (fault : RunFault) (held : Option Contents) (r : SessionRun) (before after : Loads) → IsStopped fault held [] r before after → RunsOut (Some (Sessions r)) before after
stopped_out fault held r before after h = ((count_loaded fault r, h.1), h.2)

run_out : (fault : RunFault) (held : Option Contents) (r : SessionRun) (before after : Loads) → error_line (of_run fault) ≢ None → StopsRun fault held [] r before after → RunsOut (Some (Sessions r)) before after
run_out run.ReadFault held r before after line h = absurd (line refl)
run_out run.Memory held r before after line h = h
run_out run.TooManyFiles held r before after line h = stopped_out run.TooManyFiles held r before after h
run_out (run.TooLong f) held r before after line h = stopped_out (run.TooLong f) held r before after h
run_out (run.BadSession i n) held r before after line h = stopped_out (run.BadSession i n) held r before after h
run_out (run.BadHistory k) held r before after line h = stopped_out (run.BadHistory k) held r before after h

validation_out : (fault : ValidateFault) (held : Option Contents) (v : ValidatedFiles) (before after : Loads) → error_line (of_validation fault) ≢ None → StopsValidation fault held v before after → RunsOut (Some (Validation v)) before after
validation_out validation.ReadFault held v before after line h = absurd (line refl)
validation_out validation.Memory held v before after line h = (h.0, h.1)
validation_out (validation.TooLong f) held v before after line h = ((f, h.1), h.2)
validation_out (validation.BadInput bad) held v before after line h = ((2, h.1.0), h.1.1)

verification_out : (fault : ValidateFault) (held : Option Contents) (v : VerifiedFiles) (before after : Loads) → error_line (of_validation fault) ≢ None → StopsVerification fault held v before after → RunsOut (Some (Verification v)) before after
verification_out validation.ReadFault held v before after line h = absurd (line refl)
verification_out validation.Memory held v before after line h = (h.0, h.1)
verification_out (validation.TooLong f) held v before after line h = ((f, h.1), h.2)
verification_out (validation.BadInput bad) held v before after line h = ((3, h.1.0), h.1.1)

following_out : (fault : FollowFault) (held : Option Contents) (f : FollowedFiles) (before after : Loads) → error_line (of_following fault) ≢ None → StopsFollow fault held f before after → RunsOut (Some (Following f)) before after
following_out following.ReadFault held f before after line h = absurd (line refl)
following_out following.Memory held f before after line h = (h.0, h.1)
following_out (following.TooLong i) held f before after line h = ((i, h.1), h.2)
following_out (following.BadLog n) held f before after line h = ((2, h.4.0), h.4.1)
following_out (following.BadOrder k) held f before after line h = ((2, h.4.0), h.4.1)

request_out : (s : Status) (held : Option Contents) (q : PlainRequest) (before after : Loads) → error_line s ≢ None → StopsRequest s held q before after → RunsOut (Some q) before after
request_out s held (Sessions r) before after line h = run_out h.0 held r before after (subst (λ (x : Status). error_line x ≢ None) h.1 line) h.2
request_out s held (Validation v) before after line h = validation_out h.0 held v before after (subst (λ (x : Status). error_line x ≢ None) h.1 line) h.2
request_out s held (Explanation v) before after line h = validation_out h.0 held v before after (subst (λ (x : Status). error_line x ≢ None) h.1 line) h.2
request_out s held (Verification v) before after line (inl h) = verification_out h.0 held v before after (subst (λ (x : Status). error_line x ≢ None) h.1 line) h.2
request_out s held (Verification v) before after line (inr h) = ((3, h.1.5.0), h.1.5.1)
request_out s held (Following f) before after line h = following_out h.0 held f before after (subst (λ (x : Status). error_line x ≢ None) h.1 line) h.2
request_out s held (Load n) before after line h = load_out n before after h.1

-- what is due where a request gives nothing
pub told_request : {X : Type 0} (of_status : X → Status) (of_text : X → List ℕ) (held : Option Contents) (q : PlainRequest) (before after : Loads) (s : Status) (r : Result X Status) → StopsRequest s held q before after
    → MatchResult r (λ a. (of_status a ≡ s) × (error_line s ≡ Some (of_text a))) (TellsNothing s)
    → MatchResult r (λ a. IsRequestDue held q (of_status a) before after (of_text a)) (λ t. Fails t held (Some q) before after)
told_request of_status of_text held q before after s (Ok a) stops told =
    inr (subst (λ (x : Status). StopsRequest x held q before after) (sym told.0) stops, subst (λ (x : Status). error_line x ≡ Some (of_text a)) (sym told.0) told.1)
told_request of_status of_text held q before after s (Err t) stops (inl h) = subst (λ (x : Status). Fails x held (Some q) before after) (sym h.0) (request_fails s held q before after h.1 stops)
told_request of_status of_text held q before after s (Err t) stops (inr h) = subst (λ (x : Status). Fails x held (Some q) before after) (sym h.0) (request_out s held q before after h.1 stops)

-- What is due has a status with a text.

tells_request : (held : Option Contents) (q : PlainRequest) (s : Status) (before after : Loads) (text : List ℕ) → Gives held q s before after text → (s ≡ Done) ⊎ (s ≡ Invalid)
tells_request held (Sessions r) s before after text h = inl h.0
tells_request held (Validation v) s before after text (true, e, h) = inl e
tells_request held (Validation v) s before after text (false, e, h) = inr e
tells_request held (Explanation v) s before after text (true, e, h) = inl e
tells_request held (Explanation v) s before after text (false, e, h) = inr e
tells_request held (Verification v) s before after text (Verified n, h, t) = inl t.0
tells_request held (Verification v) s before after text (Wrong i, h, t) = absurd t
tells_request held (Following f) s before after text h = inl h.0
tells_request held (Load n) s before after text h = inl h.0

tells : (held : Option Contents) (q : Option PlainRequest) (s : Status) (before after : Loads) (text : List ℕ) → IsDueOf held q s before after text → ((s ≡ Done) ⊎ (s ≡ Invalid)) ⊎ (error_line s ≡ Some text)
tells held None s before after text h = inr h.2
tells held (Some q) s before after text (inl g) = inl (tells_request held q s before after text g)
tells held (Some q) s before after text (inr h) = inr h.1

never : (held : Option Contents) (q : Option PlainRequest) (s : Status) (before after : Loads) (text : List ℕ) → s ≢ Done → s ≢ Invalid → error_line s ≡ None → IsDueOf held q s before after text → ⊥
never held q s before after text not_done not_invalid none h = elim (tells held q s before after text h) [
  | inl d ↦ elim d [ inl e ↦ not_done e | inr e ↦ not_invalid e ]
  | inr l ↦ let no : None ≡ Some text = sym none ∙ l in cc
]

-- a sink that takes all is no fault of writing
pub no_write_fault : (s : Status) (held : Option Contents) (q : Option PlainRequest) (before after : Loads) (text : List ℕ) → s ≡ WriteFault → IsDueOf held q s before after text → ⊥
no_write_fault s held q before after text e h = never held q WriteFault before after text (λ d. cc) (λ d. cc) refl (subst (λ (x : Status). IsDueOf held q x before after text) e h)

pub printed : (s : Status) (c : Call) → PrintsAll s c → IsOutcome s c
printed Done c p = p
printed Invalid c p = p
printed Usage c p = p
printed (BadSession i n) c p = p
printed (TooLong f) c p = p
printed TooManyFiles c p = p
printed (BadHistory k) c p = p
printed (BadInput bad) c p = p
printed (BadOrder i) c p = p
printed (BadEvidence i) c p = p
printed (BadLog i) c p = p
printed LogSpent c p = p
printed LogTooLarge c p = p
printed LogStopped c p = p
printed ReadFault c p = absurd (never c.held (request_of c.words) ReadFault c.before.loads c.after.loads p.0 (λ e. cc) (λ e. cc) refl p.1)
printed WriteFault c p = absurd (never c.held (request_of c.words) WriteFault c.before.loads c.after.loads p.0 (λ e. cc) (λ e. cc) refl p.1)
printed Memory c p = absurd (never c.held (request_of c.words) Memory c.before.loads c.after.loads p.0 (λ e. cc) (λ e. cc) refl p.1)

-- it was written, or a part of it
pub written : (s status : Status) (c : Call) (text : List ℕ) (blamed : Type 0) → IsDue c.words c.held s c.before.loads c.after.loads text → IsWritten s text status c.before.taken c.after.taken blamed → IsOutcome status c
written s status c text blamed due (inl h) = subst (λ (x : Status). IsOutcome x c) (sym h.0) (printed s c (text, due, h.1))
written s status c text blamed due (inr h) = subst (λ (x : Status). IsOutcome x c) (sym h.0) (let k = h.1 in (s, text, k.0, k.1, due, k.2))

-- the sink is to blame where writing failed
pub blamed_by : (s status : Status) (c : Call) (text : List ℕ) (blamed : Type 0) → IsDue c.words c.held s c.before.loads c.after.loads text → IsWritten s text status c.before.taken c.after.taken blamed → status ≡ WriteFault → blamed
blamed_by s status c text blamed due (inl h) e = absurd (no_write_fault s c.held (request_of c.words) c.before.loads c.after.loads text (sym h.0 ∙ e) due)
blamed_by s status c text blamed due (inr h) e = h.2

-- nothing was due, and the sink took nothing
pub not_printed : (s : Status) (c : Call) → Fails s c.held (request_of c.words) c.before.loads c.after.loads → c.after.taken ≡ c.before.taken → IsOutcome s c
not_printed ReadFault c f same = (f, same)
not_printed Memory c f same = (f, same)
not_printed Done c f same = absurd f
not_printed Invalid c f same = absurd f
not_printed Usage c f same = absurd f
not_printed WriteFault c f same = absurd f
not_printed (BadSession i n) c f same = absurd f
not_printed (TooLong i) c f same = absurd f
not_printed TooManyFiles c f same = absurd f
not_printed (BadHistory k) c f same = absurd f
not_printed (BadInput bad) c f same = absurd f
not_printed (BadOrder i) c f same = absurd f
not_printed (BadEvidence i) c f same = absurd f
not_printed (BadLog i) c f same = absurd f
not_printed LogSpent c f same = absurd f
not_printed LogTooLarge c f same = absurd f
not_printed LogStopped c f same = absurd f

-- What the maker refused grows by the pattern that is told alone.

pub same_grows : (old new : List Refusal) → new ≡ old → OnlyGrows old new
same_grows old new e = ([], e ∙ sym (append-nil old))

cause_grows : (d s : List ℕ) (old new : List Refusal) (cause : InputFault) → IsCause d s old new cause → OnlyGrows old new
cause_grows d s old new (texts.Data line kind) c = same_grows old new c.1
cause_grows d s old new (texts.Shapes line kind) c = same_grows old new c.2
cause_grows d s old new (texts.Rule row) c = same_grows old new c.4
cause_grows d s old new (texts.Pattern node) c = let r = c.4 in (_, r.6)
cause_grows d s old new texts.Memory c = same_grows old new c

fault_grows : (fault : ValidateFault) (held : Option Contents) (v : ValidatedFiles) (before after : Loads) → StopsValidation fault held v before after → OnlyGrows before.refused after.refused
fault_grows validation.ReadFault held v before after h = same_grows before.refused after.refused h.3
fault_grows (validation.TooLong f) held v before after h = same_grows before.refused after.refused h.3
fault_grows (validation.BadInput bad) held v before after h = let k = h.0.3 in cause_grows h.0.0 h.0.1 before.refused after.refused k.0 k.2
fault_grows validation.Memory held v before after h = same_grows before.refused after.refused h.2

pub validation_grows : (held : Option Contents) (v : ValidatedFiles) (before after : Loads) (r : Result Outcome ValidateFault) → MatchResult r (AreValidated held v before after) (λ fault. StopsValidation fault held v before after) → OnlyGrows before.refused after.refused
validation_grows held v before after (Ok o) h = same_grows before.refused after.refused h.5
validation_grows held v before after (Err fault) h = fault_grows fault held v before after h

pub explanation_grows : (held : Option Contents) (v : ValidatedFiles) (before after : Loads) (r : Result Evidence ValidateFault) → MatchResult r (AreExplained held v before after) (λ fault. StopsValidation fault held v before after) → OnlyGrows before.refused after.refused
explanation_grows held v before after (Ok o) h = same_grows before.refused after.refused h.5
explanation_grows held v before after (Err fault) h = fault_grows fault held v before after h

verdict_fault_grows : (fault : ValidateFault) (held : Option Contents) (v : VerifiedFiles) (before after : Loads) → StopsVerification fault held v before after → OnlyGrows before.refused after.refused
verdict_fault_grows validation.ReadFault held v before after h = same_grows before.refused after.refused h.3
verdict_fault_grows (validation.TooLong f) held v before after h = same_grows before.refused after.refused h.3
verdict_fault_grows (validation.BadInput bad) held v before after h = let k = h.0.3 in cause_grows h.0.0 h.0.1 before.refused after.refused k.0 k.2
verdict_fault_grows validation.Memory held v before after h = same_grows before.refused after.refused h.2

pub verification_grows : (held : Option Contents) (v : VerifiedFiles) (before after : Loads) (r : Result EvidenceVerdict ValidateFault) → MatchResult r (AreVerified held v before after) (λ fault. StopsVerification fault held v before after) → OnlyGrows before.refused after.refused
verification_grows held v before after (Ok o) h = same_grows before.refused after.refused h.6
verification_grows held v before after (Err fault) h = verdict_fault_grows fault held v before after h

-- what a verdict gives
pub verdict_gives : {X : Type 0} (status : X → Status) (text : X → List ℕ) (held : Option Contents) (v : VerifiedFiles) (before after : Loads) (verdict : EvidenceVerdict) (r : Result X Status) → AreVerified held v before after verdict
    → MatchResult r (λ a. IsTold verdict (status a) (text a)) (λ s. TellsNone verdict s)
    → MatchResult r (λ a. Gives held (Verification v) (status a) before after (text a)) (λ s. StopsRequest s held (Verification v) before after)
verdict_gives status text held v before after verdict (Ok a) is told = (verdict, is, told)
verdict_gives status text held v before after verdict (Err s) is told = inr (verdict, is, told)

-- what a follower of a log gives, and that it gives nothing where memory runs out for its text
pub follower_gives : (held : Option Contents) (f : FollowedFiles) (before after : Loads) (text given : List ℕ) → AreFollowed held f before after text → given ≡ text → NoneRefused before after → Gives held (Following f) Done before after given
follower_gives held f before after text given h e same = (refl, subst (λ (t : List ℕ). AreFollowed held f before after t) (sym e) h, same)

pub follower_stops : (held : Option Contents) (f : FollowedFiles) (before after : Loads) (text : List ℕ) → AreFollowed held f before after text → NoneRefused before after → StopsRequest Memory held (Following f) before after
follower_stops held f before after text h same = (following.Memory, refl, ((2, h.4.0), h.4.1), same)

-- it was asked for
pub follower_asked : {X : Type 0} (status : X → Status) (text : X → List ℕ) (held : Option Contents) (q : PlainRequest) (f : FollowedFiles) (before after : Loads) (r : Result X Status) → q ≡ Following f
    → MatchResult r (λ a. Gives held (Following f) (status a) before after (text a)) (λ s. StopsRequest s held (Following f) before after) → MatchResult r (λ a. Gives held q (status a) before after (text a)) (λ s. StopsRequest s held q before after)
follower_asked status text held q f before after r e h = subst (λ (x : PlainRequest). MatchResult r (λ a. Gives held x (status a) before after (text a)) (λ s. StopsRequest s held x before after)) (sym e) h
