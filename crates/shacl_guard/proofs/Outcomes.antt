-- The outcome of a call, from what is due and what was written.
use Rattle.std.proofs.Common.{◌≡◌, ◌∙◌, ℕ, List, Option, Some, None, refl, sym, ap, subst, inl, inr}
use Rattle.std.specs.Prelude.{MatchOption, MatchResult, Result, Ok, Err}
use Rattle.outside.specs.Files.{Contents}
use Rattle.input_files.specs.Loads.{Loads}
use Rattle.log_command.specs.Devices.{Device}
use Rattle.shacl_guard.specs.declared.request.LogRequest.{LogRequest}
use Rattle.shacl_guard.specs.declared.request.PlainRequest.{PlainRequest}
use Rattle.shacl_guard.specs.declared.status.Status.{Status}
use Rattle.shacl_guard.specs.declared.status.Status.TheVariants.{Usage, WriteFault, Memory}
use Rattle.shacl_guard.specs.Due.{Fails, IsDueOf, TellsNothing}
use Rattle.shacl_guard.specs.LogRuns.{log_files}
use Rattle.shacl_guard.specs.Outcome.{Call, HasFiles, IsAnswered, IsOutcome, IsOutcomeOfLog, IsWritten, Outside}
use Rattle.shacl_guard.specs.Requests.{request_of}
use Rattle.shacl_guard.specs.Statuses.{error_line}
use Rattle.shacl_guard.proofs.Answering.{blamed_by, not_printed, nothing, written}
use Rattle.shacl_guard.proofs.Complete.{complete, not_failed}
use Rattle.shacl_guard.proofs.Telling.{nothing_of_log}

pub with_none : {X : Type 0} (o : Option X) (A : Type 0) (B : X → Type 0) → o ≡ None → A → MatchOption o A B
with_none o A B e a = subst (λ p. MatchOption p A B) (sym e) a

pub with_some : {X : Type 0} (o : Option X) (x : X) (A : Type 0) (B : X → Type 0) → o ≡ Some x → B x → MatchOption o A B
with_some o x A B e b = subst (λ p. MatchOption p A B) (sym e) b

module _ {X : Type 0} (of_status : X → Status) (of_text : X → List ℕ) (c : Call) (o : Option PlainRequest) (status : Status) (blamed : Type 0) where
  pub plain_written : (r : Result X Status) → request_of c.words ≡ o → MatchResult r (λ a. IsDueOf c.held o (of_status a) c.before.loads c.after.loads (of_text a)) (λ s. Fails s c.held o c.before.loads c.after.loads)
      → MatchResult r (λ a. IsWritten (of_status a) (of_text a) status c.before.taken c.after.taken blamed) (λ s. (status ≡ s) × (c.after.taken ≡ c.before.taken)) → IsOutcome status c
  plain_written (Ok a) e due w = written (of_status a) status c (of_text a) blamed (subst (λ (p : Option PlainRequest). IsDueOf c.held p (of_status a) c.before.loads c.after.loads (of_text a)) (sym e) due) w
  plain_written (Err s) e fails w = subst (λ (x : Status). IsOutcome x c) (sym w.0) (not_printed s c (subst (λ (p : Option PlainRequest). Fails s c.held p c.before.loads c.after.loads) (sym e) fails) w.1)

  pub plain_blamed : (r : Result X Status) → request_of c.words ≡ o → MatchResult r (λ a. IsDueOf c.held o (of_status a) c.before.loads c.after.loads (of_text a)) (λ s. Fails s c.held o c.before.loads c.after.loads)
      → MatchResult r (λ a. IsWritten (of_status a) (of_text a) status c.before.taken c.after.taken blamed) (λ s. (status ≡ s) × (c.after.taken ≡ c.before.taken)) → status ≡ WriteFault → blamed
  plain_blamed (Ok a) e due w is = blamed_by (of_status a) status c (of_text a) blamed (subst (λ (p : Option PlainRequest). IsDueOf c.held p (of_status a) c.before.loads c.after.loads (of_text a)) (sym e) due) w is
  plain_blamed (Err s) e fails w is = absurd (subst (λ (x : Status). Fails x c.held o c.before.loads c.after.loads) (sym w.0 ∙ is) fails)

  pub plain_complete : (r : Result X Status) → request_of c.words ≡ o → MatchResult r (λ a. IsDueOf c.held o (of_status a) c.before.loads c.after.loads (of_text a)) (λ s. Fails s c.held o c.before.loads c.after.loads)
      → MatchResult r (λ a. IsWritten (of_status a) (of_text a) status c.before.taken c.after.taken blamed) (λ s. (status ≡ s) × (c.after.taken ≡ c.before.taken))
      → HasFiles c.held (request_of c.words) → c.after.loads.failed ≡ c.before.loads.failed → (blamed → ⊥) → IsAnswered (request_of c.words) status
  plain_complete (Ok a) e due (inl h) there same still =
      subst (λ (p : Option PlainRequest). IsAnswered p status) (sym e) (subst (IsAnswered o) (sym h.0) (complete c.held o (of_status a) c.before.loads c.after.loads (of_text a) due (subst (HasFiles c.held) e there)))
  plain_complete (Ok a) e due (inr h) there same still = absurd (still h.2)
  plain_complete (Err s) e fails w there same still =
      subst (λ (p : Option PlainRequest). IsAnswered p status) (sym e) (subst (IsAnswered o) (sym w.0) (not_failed s c.held o c.before.loads c.after.loads fails (subst (HasFiles c.held) e there) same))

-- words that are no call
pub told_usage : {X : Type 0} (of_status : X → Status) (of_text : X → List ℕ) (held : Option Contents) (loads : Loads) (r : Result X Status) → MatchResult r (λ a. (of_status a ≡ Usage) × (error_line Usage ≡ Some (of_text a))) (TellsNothing Usage)
    → MatchResult r (λ a. IsDueOf held None (of_status a) loads loads (of_text a)) (λ s. Fails s held None loads loads)
told_usage of_status of_text held loads (Ok a) told = (told.0, refl, ap error_line told.0 ∙ told.1)
told_usage of_status of_text held loads (Err s) (inl h) = let no : Some _ ≡ None = h.1 in cc
told_usage of_status of_text held loads (Err s) (inr h) = subst (λ (x : Status). Fails x held None loads loads) (sym h.0) (nothing None loads loads refl)

-- the sink is to blame where they weren't told whole
pub usage_blamed : {X : Type 0} (of_status : X → Status) (of_text : X → List ℕ) (status : Status) (old new : Option (List ℕ)) (blamed : Type 0) (r : Result X Status) → MatchResult r (λ a. (of_status a ≡ Usage) × (error_line Usage ≡ Some (of_text a))) (TellsNothing Usage)
    → MatchResult r (λ a. IsWritten (of_status a) (of_text a) status old new blamed) (λ s. (status ≡ s) × (new ≡ old)) → status ≡ WriteFault → blamed
usage_blamed of_status of_text status old new blamed (Ok a) told (inl h) is = let no : Usage ≡ WriteFault = sym told.0 ∙ (sym h.0 ∙ is) in cc
usage_blamed of_status of_text status old new blamed (Ok a) told (inr h) is = h.2
usage_blamed of_status of_text status old new blamed (Err s) (inl h) w is = let no : Usage ≡ WriteFault = sym h.0 ∙ (sym w.0 ∙ is) in cc
usage_blamed of_status of_text status old new blamed (Err s) (inr h) w is = let no : Memory ≡ WriteFault = sym h.0 ∙ (sym w.0 ∙ is) in cc

-- where there was no memory for the words, nothing was called
pub none_asked : {X : Type 0} (disk : X) (tells : Type 0) (c : Call) (device : Device) (o : Option LogRequest) → c.after ≡ c.before
    → MatchOption o (IsOutcome Memory c × (disk ≡ disk)) (λ q. IsOutcomeOfLog tells q Memory c device device)
none_asked disk tells c device None e = ((nothing (request_of c.words) c.before.loads c.after.loads (ap (λ (o : Outside). o.loads) e), ap (λ (o : Outside). o.taken) e), refl)
none_asked disk tells c device (Some q) e = (nothing_of_log (log_files q) c.before.loads c.after.loads (ap (λ (o : Outside). o.loads) e), ap (λ (o : Outside). o.taken) e)

-- no call has files where its request is none
pub none_there : (held : Option Contents) (o : Option PlainRequest) (X : Type 0) → o ≡ None → HasFiles held o → X
none_there None o X e h = absurd (subst (HasFiles None) e h)
none_there (Some files) o X e h = absurd (subst (HasFiles (Some files)) e h)
