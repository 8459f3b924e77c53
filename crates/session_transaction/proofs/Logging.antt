-- A core and its log after a commit.
use Rattle.std.proofs.Common.{◌≡◌, ◌∙◌, ℕ, Bool, true, false, ◌||◌, List, [], ◌∷◌, Option, refl, sym, ap, inl, inr}
use Rattle.std.specs.Prelude.{◌⊎◌}
use Rattle.disk.specs.Crashes.{History}
use Rattle.disk.specs.Faults.{Rose}
use Rattle.commit_log.specs.Log.{IsSameLater, LogState}
use Rattle.record_text.specs.declared.record.Record.{Record}
use Rattle.store_model.specs.declared.event.Event.{Event}
use Rattle.store_model.specs.declared.event.Action.TheVariants as actions
use Rattle.store_model.specs.declared.event.Reply.TheVariants as replies
use Rattle.store_model.specs.Logs.{is_fault}
use Rattle.store_model.specs.Store.{RecordedStore, TakesStep, version}
use Rattle.store_model.proofs.Logs.{FaultsStop-holds}
use Rattle.commit_core.specs.declared.commit.CheckedTransaction.{CheckedTransaction}
use Rattle.commit_core.specs.declared.commit.Commit.{Commit}
use Rattle.commit_core.specs.declared.commit.Commit.TheVariants.{Done, Conflict, FullTriples, Refused, LogFault, Stopped, Memory}
use Rattle.commit_core.specs.Commits.{Answers, HasNoFault}
use Rattle.commit_core.specs.Consistent.{IsConsistent}
use Rattle.commit_core.specs.Logged.{IsBeside, IsInStep, LogsCommit, record_of}
use Rattle.commit_core.proofs.LoggedCommits.{in_step_by}
use Rattle.session_transaction.specs.Logging.{KeepsStep}

or_false : (a : Bool) → (a || false) ≡ a
or_false true = refl
or_false false = refl

-- a step that is no fault of a log stops nothing
pub still_running : (old new : RecordedStore) (e : Event) → TakesStep old new e → is_fault e.reply ≡ false → new.state.stopped ≡ old.state.stopped
still_running old new e h none =
    FaultsStop-holds old.limits old.state new.state (e ∷ []) (new.state, h.step, refl) ∙ (ap (λ b. old.state.stopped || (b || false)) none ∙ or_false old.state.stopped)

-- a commit that is no fault of a log stops nothing
pub unstopped : (old new : RecordedStore) (i : ℕ) (x : CheckedTransaction) (r : Commit) → HasNoFault r → Answers r old new i x → new.state.stopped ≡ old.state.stopped
unstopped old new i x (Done n why) none h = still_running old new (record { session = i; action = actions.Commit x.transaction; reply = replies.Done n why }) h refl
unstopped old new i x (Conflict n t) none h = still_running old new (record { session = i; action = actions.Commit x.transaction; reply = replies.Conflict n t }) h refl
unstopped old new i x (FullTriples n) none h = still_running old new (record { session = i; action = actions.Commit x.transaction; reply = replies.FullTriples n }) h refl
unstopped old new i x (Refused rows why shapes) none h = still_running old new (record { session = i; action = actions.Commit x.transaction; reply = replies.Refused rows why }) h.0 refl
unstopped old new i x LogFault none h = absurd none
unstopped old new i x (Stopped n) none h = still_running old new (record { session = i; action = actions.Commit x.transaction; reply = replies.Stopped n }) h refl
unstopped old new i x (Memory y) none h = ap (λ (s : RecordedStore). s.state.stopped) h.1

module _ {D : Type 0} (tells : Type 0) (bytes : D → List ℕ) (history : D → History) (chosen : D → Option (List ℕ)) (faults : D → ℕ) (old new : RecordedStore) (consistent : IsConsistent old) (i : ℕ) (x : CheckedTransaction) (log later : LogState D) where
  abbrev Logs : Type 0 → Commit → Type 0
  Logs told r = LogsCommit told bytes history faults (record_of old.state.graph (version old.state) x.transaction) log later r

  -- the same of a disk that tells nothing
  untold : (r : Commit) → Logs tells r → Logs ⊥ r
  untold (Done n why) a = record { closed = a.closed; count = a.count; crash = λ t. absurd t; durable = λ t. absurd t }
  untold LogFault a = record { closed = a.closed; rose = a.rose; crash = λ t. absurd t }
  untold (Conflict n t) e = e
  untold (FullTriples n) e = e
  untold (Refused rows why shapes) e = e
  untold (Stopped n) e = e
  untold (Memory y) e = e

  beside_by : (r : Commit) → Answers r old new i x → Logs tells r → IsBeside old log → IsBeside new later
  beside_by r h a b = (in_step_by ⊥ bytes history faults [] old new consistent i x log later r h (untold r a) (record { beside = b; lasts = λ t. absurd t; shows = λ t. absurd t })).beside

  blamed_by : (r : Commit) → Answers r old new i x → Logs tells r → new.state.stopped ≡ true → (old.state.stopped ≡ true) ⊎ Rose (faults log.disk) (faults later.disk)
  blamed_by (Done n why) h a off = inl (sym (unstopped old new i x (Done n why) tt h) ∙ off)
  blamed_by LogFault h a off = inr a.rose
  blamed_by (Conflict n t) h a off = inl (sym (unstopped old new i x (Conflict n t) tt h) ∙ off)
  blamed_by (FullTriples n) h a off = inl (sym (unstopped old new i x (FullTriples n) tt h) ∙ off)
  blamed_by (Refused rows why shapes) h a off = inl (sym (unstopped old new i x (Refused rows why shapes) tt h) ∙ off)
  blamed_by (Stopped n) h a off = inl (sym (unstopped old new i x (Stopped n) tt h) ∙ off)
  blamed_by (Memory y) h a off = inl (sym (unstopped old new i x (Memory y) tt h) ∙ off)

  pub keeps_step : (r : Commit) → Answers r old new i x → Logs tells r → ((base : List Record) → IsInStep tells bytes history base old log → IsInStep tells bytes history base new later) → IsSameLater chosen faults log.disk later.disk → IsBeside old log
      → KeepsStep tells bytes history chosen faults old new log later
  keeps_step r h a step same b = record { beside = beside_by r h a b; step = step; blamed = blamed_by r h a; same = same }
