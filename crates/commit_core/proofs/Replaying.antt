-- A replay goes on where the event's reply is the store's own, and stops where it isn't.
use Rattle.std.proofs.Common.{◌≡◌, ℕ, ◌+◌, Bool, true, false, List, [], ◌∷◌, ◌++◌, length, refl, sym, ap, ◌∙◌, subst}
use Rattle.std.specs.Prelude.{MatchBool}
use Rattle.store_model.specs.declared.event.Action.{Action}
use Rattle.store_model.specs.declared.event.Event.{Event}
use Rattle.store_model.specs.declared.event.Limits.{Limits}
use Rattle.store_model.specs.declared.event.Reply.{Reply}
use Rattle.store_model.specs.Logs.{HasNoLog, IsUnlogged}
use Rattle.store_model.specs.Store.{RecordedStore, Replays, State, TakesStep, empty_store}
use Rattle.store_model.proofs.Logs.{UnloggedRun-holds}
use Rattle.store_model.proofs.Steps.{StepIsDeterministic-holds}
use Rattle.event_history.specs.Replies.{newest_replied, same_reply}
use Rattle.event_history.proofs.Comparing.{newest_of, reply_exact, reply_itself}
use Rattle.commit_core.specs.Conditions.{may_ask}
use Rattle.commit_core.specs.Consistent.{IsConsistent}
use Rattle.commit_core.specs.Replaying.{IsFirstWrong, IsNoStep, IsReplayed, IsWrongNext, Performs, RunsOn}
use Rattle.commit_core.proofs.Conditions.{asked}
use Rattle.commit_core.proofs.Running.{running_unlogged}

never : (b : Bool) → b ≡ false → b ≡ true → ⊥
never true e h = cc
never false e h = cc

-- an event that the store may not be asked for is no step
pub not_asked : (s : RecordedStore) (e : Event) → IsConsistent s → s.state.stopped ≡ false → may_ask s.state e.session e.action ≡ false → IsWrongNext s e
not_asked s e k on h = record {
  replays = k.replays;
  no_log = running_unlogged s.limits s.start s.state s.history on k.replays;
  no_step = λ t unlogged step. never (may_ask s.state e.session e.action) h (asked s.limits s.state t e.session e.action e.reply step);
}

-- a step that needs no log doesn't stop the store
runs_on : (old new : RecordedStore) (e : Event) → old.state.stopped ≡ false → IsUnlogged e.reply → TakesStep old new e → RunsOn old new e
runs_on old new e on none step = (step, UnloggedRun-holds old.limits old.state new.state (e ∷ []) on (none, tt) (new.state, step.step, refl))

by_test : (old new : RecordedStore) (i : ℕ) (a : Action) (r : Reply) (b : Bool) → IsConsistent old → old.state.stopped ≡ false → (p : Performs old new i a) → b ≡ same_reply p.reply r
    → MatchBool b (RunsOn old new (record { session = i; action = a; reply = r })) (IsWrongNext old (record { session = i; action = a; reply = r }))
by_test old new i a r true k on p e = subst (λ (q : Reply). RunsOn old new (record { session = i; action = a; reply = q })) (reply_exact p.reply r (sym e)) (runs_on old new (record { session = i; action = a; reply = p.reply }) on p.unlogged p.step)
by_test old new i a r false k on p e = record {
  replays = k.replays;
  no_log = running_unlogged old.limits old.start old.state old.history on k.replays;
  no_step = λ t unlogged step.
      let one = StepIsDeterministic-holds old.limits old.state new.state t i a p.reply r p.unlogged unlogged p.step.step step in
      never (same_reply p.reply r) (sym e) (subst (λ (q : Reply). same_reply p.reply q ≡ true) (sym one.0) (reply_itself p.reply));
}

-- the step is the event's where the reply is the store's, and else the event is none
pub replied : (old new : RecordedStore) (i : ℕ) (a : Action) (r : Reply) (b : Bool) → IsConsistent old → old.state.stopped ≡ false → Performs old new i a → b ≡ newest_replied new.history r
    → MatchBool b (RunsOn old new (record { session = i; action = a; reply = r })) (IsWrongNext old (record { session = i; action = a; reply = r }))
replied old new i a r b k on p e =
    let mine : Event = record { session = i; action = a; reply = p.reply } in
    by_test old new i a r b k on p (e ∙ (ap (λ (es : List Event). newest_replied es r) p.step.history ∙ newest_of old.history mine r))

pub first_wrong : (l : Limits) (events back : List Event) (s : RecordedStore) (e : Event) (k : ℕ) → s.limits ≡ l → s.start ≡ empty_store → s.history ++ e ∷ back ≡ events → k ≡ length s.history + 1 → IsWrongNext s e → IsFirstWrong l events k
first_wrong l events back s e k el es eh ek w = record {
  front = s.history;
  wrong = e;
  back = back;
  all = sym eh;
  place = ek;
  state = s.state;
  replays = subst (λ (m : Limits). Replays m empty_store s.history s.state) el (subst (λ (b : State). Replays s.limits b s.history s.state) es w.replays);
  no_log = w.no_log;
  no_step = subst (λ (m : Limits). IsNoStep m s.state e) el w.no_step;
}

pub replayed_all : (l : Limits) (events : List Event) (s : RecordedStore) → s.limits ≡ l → s.start ≡ empty_store → s.history ≡ events → IsConsistent s → s.state.stopped ≡ false → IsReplayed l events s
replayed_all l events s el es eh k on = record {
  limits = el;
  start = es;
  history = eh;
  replays = subst (λ (m : Limits). Replays m empty_store events s.state) el
      (subst (λ (b : State). Replays s.limits b events s.state) es (subst (λ (fs : List Event). Replays s.limits s.start fs s.state) eh k.replays));
  no_log = subst (λ (fs : List Event). HasNoLog fs) eh (running_unlogged s.limits s.start s.state s.history on k.replays);
}
