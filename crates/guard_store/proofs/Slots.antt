-- A core has its log still.
use Rattle.std.proofs.Common.{◌≡◌, ◌∙◌, ℕ, ◌+◌, ◌≤◌, true, false, List, [], ◌++◌, Result, Ok, Err, Option, Some, None, refl, sym, ap, subst, inl, inr, append-nil, arith}
use Rattle.std.specs.Prelude.{IfOk, OnErr, MatchResult}
use mathlib.Core.Logic.{dite}
use native.Mathlib.Decide.{ℕ_discrete}
use Rattle.disk.specs.Crashes.{History}
use Rattle.disk.specs.Faults.{Rose}
use Rattle.commit_log.specs.Log.{LogState}
use Rattle.record_text.specs.declared.record.Record.{Record}
use Rattle.rdf_model.specs.declared.term.Term.{Term}
use Rattle.store_model.specs.declared.event.NameKind.{NameKind}
use Rattle.store_model.specs.declared.event.Event.{Event}
use Rattle.store_model.specs.declared.event.Action.TheVariants as actions
use Rattle.store_model.specs.declared.event.Reply.TheVariants as replies
use Rattle.store_model.specs.Logs.{is_fault}
use Rattle.store_model.specs.Store.{RecordedStore, TakesStep}
use Rattle.commit_core.specs.declared.naming.NamingFault.{NamingFault}
use Rattle.commit_core.specs.declared.naming.NamingFault.TheVariants as names
use Rattle.commit_core.specs.declared.store.SessionFault.{SessionFault}
use Rattle.commit_core.specs.declared.store.SessionFault.TheVariants as sessions
use Rattle.commit_core.specs.Consistent.{IsConsistent}
use Rattle.commit_core.specs.Faults.{NamesNone, OpensNone}
use Rattle.commit_core.specs.Logged.{Lasts, Shows, accepted_in, failed_in, logged, lost}
use Rattle.commit_core.proofs.LoggedCommits.{in_step_kept}
use Rattle.session_transaction.specs.Logging.{KeepsLog, StandsBeside}
use Rattle.session_transaction.proofs.Logging.{still_running}
use Rattle.guard_store.specs.Answers.{event_of}
use Rattle.guard_store.specs.Fronts.{void_of}
use Rattle.guard_store.specs.Slots.{HasItsLog, LogOrigin, log_origin}

-- a count that rose has risen from before, and has risen later
rose_grows : (a b c : ℕ) → Rose a b → b ≤ c → Rose a c
rose_grows a b c (inl lt) le = inl (omega (arith, lt, le))
rose_grows a b c (inr h) le = dite (ℕ_discrete c a)
    (λ same. let is : Rose a c = inr (h.0, same) in is)
    (λ other. let is : Rose a c = inl (omega (arith, h.1, le, other)) in is)

rose_later : (a b c : ℕ) → a ≤ b → Rose b c → Rose a c
rose_later a b c le (inl lt) = inl (omega (arith, lt, le))
rose_later a b c le (inr h) = dite (ℕ_discrete b a)
    (λ same. let is : Rose a c = inr (ap (λ (n : ℕ). n + 1) (sym same) ∙ h.0, h.1 ∙ same) in is)
    (λ other. let is : Rose a c = inl (omega (arith, h.1, le, other)) in is)

-- an event that is no commit
pub record IsNoCommit (e : Event) : Type 0 where
  pub accepted : accepted_in e.action e.reply ≡ None
  pub failed : failed_in e.action e.reply ≡ None
  pub sound : is_fault e.reply ≡ false

no_history : (base : List Record) (core : RecordedStore) → core.history ≡ [] → (logged base core ≡ base) × (lost core ≡ None)
no_history base core none =
    let all : logged base core ≡ base ++ [] = ap (λ (es : List Event). logged base (record core { history = es })) none in
    let fault : lost core ≡ None = ap (λ (es : List Event). lost (record core { history = es })) none in
    (all ∙ append-nil base, fault)

module _ {D : Type 0} (tells : Type 0) (bytes : D → List ℕ) (history : D → History) (chosen : D → Option (List ℕ)) (faults : D → ℕ) where
  abbrev Its : Option LogOrigin → RecordedStore → Option (LogState D) → Type 0
  Its o core log = HasItsLog tells bytes history chosen faults o core log

  -- as a store begins
  pub its_first : (core : RecordedStore) (log : Option (LogState D)) → core.history ≡ [] → core.state.stopped ≡ false → StandsBeside core log → Its (log_origin bytes history chosen faults log) core log
  its_first core None none on b = on
  its_first core (Some log) none on b = record {
    beside = b;
    step = λ base had.
        let is = no_history base core none in record {
          beside = b;
          lasts = λ t. subst (λ (rs : List Record). Lasts rs (lost core) (history log.disk).now) (sym is.0) (subst (λ (o : Option Record). Lasts base o (history log.disk).now) (sym is.1) (had.lasts t));
          shows = λ t. subst (λ (rs : List Record). Shows rs (lost core) (bytes log.disk)) (sym is.0) (subst (λ (o : Option Record). Shows base o (bytes log.disk)) (sym is.1) (had.shows t));
        };
    blamed = λ off. absurd (let no : true ≡ false = sym off ∙ on in cc);
    risen = omega arith;
    name = refl;
  }

  pub its_stands : (o : Option LogOrigin) (core : RecordedStore) (log : Option (LogState D)) → Its o core log → StandsBeside core log
  its_stands None core None i = tt
  its_stands (Some first) core (Some log) i = i.beside
  its_stands None core (Some log) i = absurd i
  its_stands (Some first) core None i = absurd i

  -- after a step that is no commit
  pub its_kept : (o : Option LogOrigin) (old new : RecordedStore) (log : Option (LogState D)) (e : Event) → IsConsistent old → TakesStep old new e → IsNoCommit e → Its o old log → Its o new log
  its_kept None old new None e k h n i = still_running old new e h n.sound ∙ i
  its_kept (Some first) old new (Some log) e k h n i =
      let same = still_running old new e h n.sound in record {
        beside = (in_step_kept ⊥ bytes history [] old new k log e h n.accepted n.failed same (record { beside = i.beside; lasts = λ t. absurd t; shows = λ t. absurd t })).beside;
        step = λ base had. in_step_kept tells bytes history base old new k log e h n.accepted n.failed same (i.step base had);
        blamed = λ off. i.blamed (sym same ∙ off);
        risen = i.risen;
        name = i.name;
      }
  its_kept None old new (Some log) e k h n i = absurd i
  its_kept (Some first) old new None e k h n i = absurd i

  -- after a call that takes such a step, or changes nothing
  pub its_on : {A E : Type 0} (o : Option LogOrigin) (old new : RecordedStore) (log : Option (LogState D)) (r : Result A E) (event : A → Event) → ((a : A) → IsNoCommit (event a)) → IsConsistent old → IfOk r (λ a. TakesStep old new (event a)) → OnErr r (new ≡ old) → Its o old log → Its o new log
  its_on {A} {E} o old new log (Ok a) event n k h same i = its_kept o old new log (event a) k h (n a) i
  its_on {A} {E} o old new log (Err e) event n k h same i = subst (λ (s : RecordedStore). Its o s log) (sym same) i

  pub its_opened : (o : Option LogOrigin) (old new : RecordedStore) (log : Option (LogState D)) (r : Result ℕ SessionFault) → IsConsistent old
      → MatchResult r (λ n. TakesStep old new (event_of n actions.Open (replies.Session n))) (λ f. OpensNone f old new) → Its o old log → Its o new log
  its_opened o old new log (Ok n) k h i = its_kept o old new log (event_of n actions.Open (replies.Session n)) k h (record { accepted = refl; failed = refl; sound = refl }) i
  its_opened o old new log (Err sessions.SessionsFull) k h i = its_kept o old new log (event_of 0 actions.Open replies.SessionsFull) k h (record { accepted = refl; failed = refl; sound = refl }) i
  its_opened o old new log (Err sessions.Memory) k h i = subst (λ (s : RecordedStore). Its o s log) (sym h) i

  pub its_named : {A : Type 0} (o : Option LogOrigin) (old new : RecordedStore) (log : Option (LogState D)) (i : ℕ) (kind : NameKind) (ts : List Term) (r : Result A NamingFault) → IsConsistent old
      → MatchResult r (λ _. TakesStep old new (event_of i (actions.Name kind ts) replies.Named)) (λ f. NamesNone f old new i kind ts) → Its o old log → Its o new log
  its_named {A} o old new log i kind ts (Ok a) k h its = its_kept o old new log (event_of i (actions.Name kind ts) replies.Named) k h (record { accepted = refl; failed = refl; sound = refl }) its
  its_named {A} o old new log i kind ts (Err (names.Unknown node)) k h its = its_kept o old new log (event_of i (actions.Name kind ts) (replies.Unknown node)) k h (record { accepted = refl; failed = refl; sound = refl }) its
  its_named {A} o old new log i kind ts (Err (names.Full n)) k h its = its_kept o old new log (event_of i (actions.Name kind ts) (replies.Full n)) k h (record { accepted = refl; failed = refl; sound = refl }) its
  its_named {A} o old new log i kind ts (Err names.Memory) k h its = subst (λ (s : RecordedStore). Its o s log) (sym h) its

  pub its_void : (o : Option LogOrigin) (old new : RecordedStore) (log : Option (LogState D)) (i : ℕ) → IsConsistent old → TakesStep old new (void_of i) → Its o old log → Its o new log
  its_void o old new log i k h its = its_kept o old new log (void_of i) k h (record { accepted = refl; failed = refl; sound = refl }) its

  -- after a commit
  pub its_committed : (o : Option LogOrigin) (old new : RecordedStore) (log later : Option (LogState D)) → KeepsLog tells bytes history chosen faults old new log later → Its o old log → Its o new later
  its_committed None old new None None k i = k ∙ i
  its_committed (Some first) old new (Some log) (Some later) k i = record {
    beside = k.beside;
    step = λ base had. k.step base (i.step base had);
    blamed = λ off. elim (k.blamed off) [
      | inl was ↦ rose_grows first.count (faults log.disk) (faults later.disk) (i.blamed was) k.same.count
      | inr rose ↦ rose_later first.count (faults log.disk) (faults later.disk) i.risen rose
    ];
    risen = omega (arith, i.risen, k.same.count);
    name = k.same.name ∙ i.name;
  }
  its_committed None old new None (Some later) k i = absurd k
  its_committed None old new (Some log) later k i = absurd i
  its_committed (Some first) old new None later k i = absurd i
  its_committed (Some first) old new (Some log) None k i = absurd k
