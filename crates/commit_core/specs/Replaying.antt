-- What a replay answers.
use Rattle.std.specs.Prelude.{◌≡◌, ℕ, ◌+◌, false, List, ◌∷◌, ◌++◌, length}
use Rattle.store_model.specs.declared.event.Action.{Action}
use Rattle.store_model.specs.declared.event.Event.{Event}
use Rattle.store_model.specs.declared.event.Limits.{Limits}
use Rattle.store_model.specs.declared.event.Reply.{Reply}
use Rattle.store_model.specs.Logs.{HasNoLog, IsUnlogged}
use Rattle.store_model.specs.Store.{RecordedStore, Replays, State, Step, TakesStep, empty_store}
use Rattle.commit_core.specs.declared.replay.ReplayFault.{ReplayFault}
use Rattle.commit_core.specs.declared.replay.ReplayFault.TheVariants.{At, Memory}

-- the event is no step of the store, which has no log
abbrev pub IsNoStep : Limits → State → Event → Type 0
IsNoStep l s e = (t : State) → IsUnlogged e.reply → Step l s e t → ⊥

-- Event k, counted from 1, is the first that is no step of the store without a log that the events before it lead to.
pub record IsFirstWrong (l : Limits) (events : List Event) (k : ℕ) : Type 0 where
  pub front : List Event
  pub wrong : Event
  pub back : List Event
  pub all : events ≡ front ++ wrong ∷ back
  pub place : k ≡ length front + 1
  pub state : State
  pub replays : Replays l empty_store front state
  pub no_log : HasNoLog front
  pub no_step : IsNoStep l state wrong

abbrev pub IsReplayFault : Limits → List Event → ReplayFault → Type 0
IsReplayFault l events (At k) = IsFirstWrong l events k
IsReplayFault l events Memory = Unit {0}

-- the store has these limits and this history, which needs no log, and whose replay from the empty store is its state
pub record IsReplayed (l : Limits) (events : List Event) (s : RecordedStore) : Type 0 where
  pub limits : s.limits ≡ l
  pub start : s.start ≡ empty_store
  pub history : s.history ≡ events
  pub replays : Replays l empty_store events s.state
  pub no_log : HasNoLog events

-- the store took a step of this session and this action, which needs no log
pub record Performs (old new : RecordedStore) (i : ℕ) (a : Action) : Type 0 where
  pub reply : Reply
  pub unlogged : IsUnlogged reply
  pub step : TakesStep old new (record { session = i; action = a; reply = reply })

-- the store took the step of this event, and isn't stopped
abbrev pub RunsOn : RecordedStore → RecordedStore → Event → Type 0
RunsOn old new e = TakesStep old new e × (new.state.stopped ≡ false)

-- the event that comes next is no step of the store, whose history leads to its state
pub record IsWrongNext (s : RecordedStore) (e : Event) : Type 0 where
  pub replays : Replays s.limits s.start s.history s.state
  pub no_log : HasNoLog s.history
  pub no_step : IsNoStep s.limits s.state e
