-- What is due for a request with a log, from what it gives.
use Rattle.std.proofs.Common.{◌≡◌, ◌∙◌, ℕ, List, [], Option, Some, None, refl, sym, ap, subst, inl, inr, append-nil}
use Rattle.std.specs.Prelude.{◌≢◌, ◌⊎◌, Bool, true, false, MatchResult, Result, Ok, Err}
use Rattle.outside.specs.Files.{Contents}
use Rattle.input_files.specs.Loads.{Loads, LoadsFirst, NoneFailed}
use Rattle.session_files.specs.declared.fault.RunFault.{RunFault}
use Rattle.session_files.specs.declared.fault.RunFault.TheVariants as run
use Rattle.session_files.specs.Faults.{StopsRun, count_loaded}
use Rattle.session_files.specs.Logged.{run_over}
use Rattle.store_model.specs.Logs.{has_fault}
use Rattle.store_model.specs.Store.{RecordedStore}
use Rattle.log_command.specs.declared.fault.CreateLogFault.{CreateLogFault}
use Rattle.log_command.specs.declared.fault.CreateLogFault.TheVariants as creation
use Rattle.log_command.specs.declared.fault.LogFault.{LogFault}
use Rattle.log_command.specs.declared.fault.LogFault.TheVariants as log
use Rattle.log_command.specs.Devices.{Device}
use Rattle.shacl_guard.specs.declared.request.LogRequest.{LogRequest}
use Rattle.shacl_guard.specs.declared.request.LogRequest.TheVariants.{Create, Logged}
use Rattle.shacl_guard.specs.declared.request.LoggedRun.{LoggedRun}
use Rattle.shacl_guard.specs.declared.status.Status.{Status}
use Rattle.shacl_guard.specs.declared.status.Status.TheVariants.{Done, Invalid, Usage, ReadFault, WriteFault, BadSession, Memory, TooLong, TooManyFiles, BadHistory, BadInput, BadLog, LogSpent, LogTooLarge, LogStopped, BadOrder, BadEvidence}
use Rattle.shacl_guard.specs.Due.{TellsNothing}
use Rattle.shacl_guard.specs.LogRuns.{FailsOfLog, GivesOfLog, IsDueOfLog, StopsOfLog, log_files}
use Rattle.shacl_guard.specs.Outcome.{Call, IsOutcomeOfLog, IsWritten, PrintsAllOfLog}
use Rattle.shacl_guard.specs.Statuses.{error_line, of_creation, of_fault, of_log, of_run}

-- nothing was loaded
none_loaded : (names : List (List ℕ)) (before after : Loads) → after.loaded ≡ before.loaded → NoneFailed before after → LoadsFirst names before after × NoneFailed before after
none_loaded names before after e f = ((0, e ∙ sym (append-nil before.loaded)), f)

pub nothing_of_log : (names : List (List ℕ)) (before after : Loads) → after ≡ before → LoadsFirst names before after × NoneFailed before after
nothing_of_log names before after e = none_loaded names before after (ap (λ (l : Loads). l.loaded) e) (ap (λ (l : Loads). l.failed) e)

-- A status without a line of its own.

creation_fails : (fault : CreateLogFault) (tells : Type 0) (held : Option Contents) (name : List ℕ) (before after : Loads) (was is : Device) → error_line (of_creation fault) ≡ None → StopsOfLog tells held (Create name) (of_creation fault) before after was is → after ≡ before
    → FailsOfLog (of_creation fault) tells held (Create name) before after was is
creation_fails creation.ReadFault tells held name before after was is none h e = h
creation_fails creation.NotEmpty tells held name before after was is none h e = cc
creation_fails creation.Memory tells held name before after was is none h e = nothing_of_log [] before after e

at_log_fails : (fault : LogFault) (tells : Type 0) (held : Option Contents) (q : LoggedRun) (before after : Loads) (was is : Device) → error_line (of_log fault) ≡ None → StopsOfLog tells held (Logged q) (of_log fault) before after was is
    → after.loaded ≡ before.loaded → NoneFailed before after → FailsOfLog (of_log fault) tells held (Logged q) before after was is
at_log_fails log.ReadFault tells held q before after was is none h e f = h
at_log_fails (log.BadLog entry) tells held q before after was is none h e f = cc
at_log_fails log.Spent tells held q before after was is none h e f = cc
at_log_fails (log.Pattern node) tells held q before after was is none h e f = cc
at_log_fails log.TooLarge tells held q before after was is none h e f = cc
at_log_fails log.Memory tells held q before after was is none h e f = none_loaded q.run.files before after e f

behind_log_fails : (fault : RunFault) (tells : Type 0) (held : Option Contents) (firsts : List ℕ) (core : RecordedStore) (q : LoggedRun) (before after : Loads) (was is : Device) → error_line (of_run fault) ≡ None → StopsOfLog tells held (Logged q) (of_run fault) before after was is
    → StopsRun fault held firsts (run_over core q.run.files) before after → FailsOfLog (of_run fault) tells held (Logged q) before after was is
behind_log_fails run.ReadFault tells held firsts core q before after was is none h k = h
behind_log_fails run.Memory tells held firsts core q before after was is none h k = k
behind_log_fails run.TooManyFiles tells held firsts core q before after was is none h k = cc
behind_log_fails (run.TooLong f) tells held firsts core q before after was is none h k = cc
behind_log_fails (run.BadSession i n) tells held firsts core q before after was is none h k = cc
behind_log_fails (run.BadHistory i) tells held firsts core q before after was is none h k = cc

-- with the status in its place
fails_as : (s t : Status) (tells : Type 0) (held : Option Contents) (q : LogRequest) (before after : Loads) (was is : Device) → s ≡ t → (error_line t ≡ None → StopsOfLog tells held q t before after was is → FailsOfLog t tells held q before after was is)
    → error_line s ≡ None → StopsOfLog tells held q s before after was is → FailsOfLog s tells held q before after was is
fails_as s t tells held q before after was is e f none h =
    subst (λ (x : Status). FailsOfLog x tells held q before after was is) (sym e) (f (subst (λ (x : Status). error_line x ≡ None) e none) (subst (λ (x : Status). StopsOfLog tells held q x before after was is) e h))

too_many_fails : (s : Status) (X : Type 0) → s ≡ TooManyFiles → error_line s ≡ None → X
too_many_fails s X e none = let no : error_line TooManyFiles ≡ None = subst (λ (x : Status). error_line x ≡ None) e none in absurd (let clash : Some _ ≡ None = no in cc)

log_fails : (s : Status) (tells : Type 0) (held : Option Contents) (q : LogRequest) (before after : Loads) (was is : Device) → error_line s ≡ None → StopsOfLog tells held q s before after was is → FailsOfLog s tells held q before after was is
log_fails s tells held (Create name) before after was is none h =
    fails_as s (of_creation h.0) tells held (Create name) before after was is h.1 (λ n k. creation_fails h.0 tells held name before after was is n k h.3) none h
log_fails s tells held (Logged q) before after was is none (inl h) = too_many_fails s (FailsOfLog s tells held (Logged q) before after was is) h.1 none
log_fails s tells held (Logged q) before after was is none (inr (inl h)) =
    fails_as s (of_log h.fault) tells held (Logged q) before after was is h.status_is (λ n k. at_log_fails h.fault tells held q before after was is n k h.none_loaded h.none_failed) none (inr (inl h))
log_fails s tells held (Logged q) before after was is none (inr (inr h)) =
    fails_as s (of_run h.fault) tells held (Logged q) before after was is h.status_is (λ n k. behind_log_fails h.fault tells held h.firsts h.core q before after was is n k h.stops) none (inr (inr h))

-- Where memory runs out before the line of an error is made.

run_out : (fault : RunFault) (held : Option Contents) (firsts : List ℕ) (core : RecordedStore) (names : List (List ℕ)) (before after : Loads) → error_line (of_run fault) ≢ None → StopsRun fault held firsts (run_over core names) before after → LoadsFirst names before after × NoneFailed before after
run_out run.ReadFault held firsts core names before after line h = absurd (line refl)
run_out run.Memory held firsts core names before after line h = h
run_out run.TooManyFiles held firsts core names before after line h = ((count_loaded run.TooManyFiles (run_over core names), h.1), h.2)
run_out (run.TooLong f) held firsts core names before after line h = ((count_loaded (run.TooLong f) (run_over core names), h.1), h.2)
run_out (run.BadSession i n) held firsts core names before after line h = ((count_loaded (run.BadSession i n) (run_over core names), h.1), h.2)
run_out (run.BadHistory k) held firsts core names before after line h = ((count_loaded (run.BadHistory k) (run_over core names), h.1), h.2)

log_out : (s : Status) (tells : Type 0) (held : Option Contents) (q : LogRequest) (before after : Loads) (was is : Device) → error_line s ≢ None → StopsOfLog tells held q s before after was is → LoadsFirst (log_files q) before after × NoneFailed before after
log_out s tells held (Create name) before after was is line h = nothing_of_log [] before after h.3
log_out s tells held (Logged q) before after was is line (inl h) = nothing_of_log q.run.files before after h.2
log_out s tells held (Logged q) before after was is line (inr (inl h)) = none_loaded q.run.files before after h.none_loaded h.none_failed
log_out s tells held (Logged q) before after was is line (inr (inr h)) = run_out h.fault held h.firsts h.core q.run.files before after (subst (λ (x : Status). error_line x ≢ None) h.status_is line) h.stops

-- what is due where it gives nothing
pub told_log : {X : Type 0} (of_status : X → Status) (of_text : X → List ℕ) (tells : Type 0) (held : Option Contents) (q : LogRequest) (before after : Loads) (was is : Device) (s : Status) (r : Result X Status) → StopsOfLog tells held q s before after was is
    → MatchResult r (λ a. (of_status a ≡ s) × (error_line s ≡ Some (of_text a))) (TellsNothing s)
    → MatchResult r (λ a. IsDueOfLog tells held q (of_status a) before after was is (of_text a)) (λ t. FailsOfLog t tells held q before after was is)
told_log of_status of_text tells held q before after was is s (Ok a) stops told =
    inr (subst (λ (x : Status). StopsOfLog tells held q x before after was is) (sym told.0) stops, subst (λ (x : Status). error_line x ≡ Some (of_text a)) (sym told.0) told.1)
told_log of_status of_text tells held q before after was is s (Err t) stops (inl h) = subst (λ (x : Status). FailsOfLog x tells held q before after was is) (sym h.0) (log_fails s tells held q before after was is h.1 stops)
told_log of_status of_text tells held q before after was is s (Err t) stops (inr h) = subst (λ (x : Status). FailsOfLog x tells held q before after was is) (sym h.0) (log_out s tells held q before after was is h.1 stops)

-- What is printed.

by_fault : (b : Bool) (s : Status) → s ≡ of_fault b → (s ≡ Done) ⊎ (s ≡ LogStopped)
by_fault false s e = inl e
by_fault true s e = inr e

-- a text that is due has a status with a text
gives_status : (tells : Type 0) (held : Option Contents) (q : LogRequest) (s : Status) (before after : Loads) (was is : Device) (text : List ℕ) → GivesOfLog tells held q s before after was is text → (s ≡ Done) ⊎ (s ≡ LogStopped)
gives_status tells held (Create name) s before after was is text h = inl h.0
gives_status tells held (Logged q) s before after was is text h = by_fault (has_fault h.history) s h.status_is

never_due : (s : Status) (tells : Type 0) (held : Option Contents) (q : LogRequest) (before after : Loads) (was is : Device) (text : List ℕ) → s ≢ Done → s ≢ LogStopped → error_line s ≡ None → IsDueOfLog tells held q s before after was is text → ⊥
never_due s tells held q before after was is text not_done not_stopped none (inl g) = elim (gives_status tells held q s before after was is text g) [ inl e ↦ not_done e | inr e ↦ not_stopped e ]
never_due s tells held q before after was is text not_done not_stopped none (inr h) = let no : None ≡ Some text = sym none ∙ h.1 in cc

printed : (s : Status) (tells : Type 0) (q : LogRequest) (c : Call) (was is : Device) → PrintsAllOfLog tells q s c was is → IsOutcomeOfLog tells q s c was is
printed Done tells q c was is p = p
printed Invalid tells q c was is p = p
printed Usage tells q c was is p = p
printed (BadSession i n) tells q c was is p = p
printed (TooLong f) tells q c was is p = p
printed TooManyFiles tells q c was is p = p
printed (BadHistory k) tells q c was is p = p
printed (BadInput bad) tells q c was is p = p
printed (BadLog k) tells q c was is p = p
printed LogSpent tells q c was is p = p
printed LogTooLarge tells q c was is p = p
printed LogStopped tells q c was is p = p
printed (BadOrder k) tells q c was is p = p
printed (BadEvidence i) tells q c was is p = p
printed ReadFault tells q c was is p = absurd (never_due ReadFault tells c.held q c.before.loads c.after.loads was is p.0 (λ e. cc) (λ e. cc) refl p.1)
printed WriteFault tells q c was is p = absurd (never_due WriteFault tells c.held q c.before.loads c.after.loads was is p.0 (λ e. cc) (λ e. cc) refl p.1)
printed Memory tells q c was is p = absurd (never_due Memory tells c.held q c.before.loads c.after.loads was is p.0 (λ e. cc) (λ e. cc) refl p.1)

not_printed : (s : Status) (tells : Type 0) (q : LogRequest) (c : Call) (was is : Device) → FailsOfLog s tells c.held q c.before.loads c.after.loads was is → c.after.taken ≡ c.before.taken → IsOutcomeOfLog tells q s c was is
not_printed ReadFault tells q c was is f same = (f, same)
not_printed Memory tells q c was is f same = (f, same)
not_printed Done tells q c was is f same = absurd f
not_printed Invalid tells q c was is f same = absurd f
not_printed Usage tells q c was is f same = absurd f
not_printed WriteFault tells q c was is f same = absurd f
not_printed (BadSession i n) tells q c was is f same = absurd f
not_printed (TooLong i) tells q c was is f same = absurd f
not_printed TooManyFiles tells q c was is f same = absurd f
not_printed (BadHistory k) tells q c was is f same = absurd f
not_printed (BadInput bad) tells q c was is f same = absurd f
not_printed (BadLog k) tells q c was is f same = absurd f
not_printed LogSpent tells q c was is f same = absurd f
not_printed LogTooLarge tells q c was is f same = absurd f
not_printed LogStopped tells q c was is f same = absurd f
not_printed (BadOrder k) tells q c was is f same = absurd f
not_printed (BadEvidence i) tells q c was is f same = absurd f

-- it was written, or a part of it, or nothing is due
pub log_written : {X : Type 0} (of_status : X → Status) (of_text : X → List ℕ) (tells : Type 0) (q : LogRequest) (c : Call) (was is : Device) (status : Status) (blamed : Type 0) (r : Result X Status)
    → MatchResult r (λ a. IsDueOfLog tells c.held q (of_status a) c.before.loads c.after.loads was is (of_text a)) (λ s. FailsOfLog s tells c.held q c.before.loads c.after.loads was is)
    → MatchResult r (λ a. IsWritten (of_status a) (of_text a) status c.before.taken c.after.taken blamed) (λ s. (status ≡ s) × (c.after.taken ≡ c.before.taken)) → IsOutcomeOfLog tells q status c was is
log_written of_status of_text tells q c was is status blamed (Ok a) due (inl h) = subst (λ (x : Status). IsOutcomeOfLog tells q x c was is) (sym h.0) (printed (of_status a) tells q c was is (of_text a, due, h.1))
log_written of_status of_text tells q c was is status blamed (Ok a) due (inr h) = subst (λ (x : Status). IsOutcomeOfLog tells q x c was is) (sym h.0) (let k = h.1 in (of_status a, of_text a, k.0, k.1, due, k.2))
log_written of_status of_text tells q c was is status blamed (Err s) fails w = subst (λ (x : Status). IsOutcomeOfLog tells q x c was is) (sym w.0) (not_printed s tells q c was is fails w.1)

pub log_blamed : {X : Type 0} (of_status : X → Status) (of_text : X → List ℕ) (tells : Type 0) (q : LogRequest) (c : Call) (was is : Device) (status : Status) (blamed : Type 0) (r : Result X Status)
    → MatchResult r (λ a. IsDueOfLog tells c.held q (of_status a) c.before.loads c.after.loads was is (of_text a)) (λ s. FailsOfLog s tells c.held q c.before.loads c.after.loads was is)
    → MatchResult r (λ a. IsWritten (of_status a) (of_text a) status c.before.taken c.after.taken blamed) (λ s. (status ≡ s) × (c.after.taken ≡ c.before.taken)) → status ≡ WriteFault → blamed
log_blamed of_status of_text tells q c was is status blamed (Ok a) due (inl h) e =
    absurd (never_due WriteFault tells c.held q c.before.loads c.after.loads was is (of_text a) (λ d. cc) (λ d. cc) refl (subst (λ (x : Status). IsDueOfLog tells c.held q x c.before.loads c.after.loads was is (of_text a)) (sym h.0 ∙ e) due))
log_blamed of_status of_text tells q c was is status blamed (Ok a) due (inr h) e = h.2
log_blamed of_status of_text tells q c was is status blamed (Err s) fails w e = absurd (subst (λ (x : Status). FailsOfLog x tells c.held q c.before.loads c.after.loads was is) (sym w.0 ∙ e) fails)
