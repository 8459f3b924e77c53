-- What a run of session files ends with.
use Rattle.std.specs.Prelude.{◌≡◌, ℕ, List, map, Option, None, length}
use Rattle.disk.specs.Crashes.{History}
use Rattle.commit_log.specs.Log.{LogState}
use Rattle.store_model.specs.declared.event.Limits.{Limits}
use Rattle.store_model.specs.Store.{RecordedStore, Replays, State}
use Rattle.session_model.specs.declared.command.Command.{Command}
use Rattle.session_model.specs.declared.reply.SessionReply.{SessionReply}
use Rattle.session_model.specs.Sessions.{HasReplies}
use Rattle.session_laws.specs.Following.{Follow, fault_place}
use Rattle.guard_store.specs.Slots.{HasItsLog, log_origin}

-- The order is valid for these files and a store that begins in state s, where the log fails at this place of it, if it does; the
-- sessions are answered so, and the data graph has so many triples at the end.
abbrev pub HasEnd : List (List Command) → Limits → State → List ℕ → Option ℕ → List (List SessionReply) → ℕ → Type 0
HasEnd files l s order fault all triples = (run : HasReplies files l s order fault all) × (triples ≡ length run.last.state.graph)

-- The store that began with the core and the log ended at `last`, with this log.
pub record LeavesStore {D : Type 0} (tells : Type 0) (bytes : D → List ℕ) (history : D → History) (chosen : D → Option (List ℕ)) (faults : D → ℕ) (core : RecordedStore) (log : Option (LogState D)) (last : RecordedStore) (later : Option (LogState D)) : Type 0 where
  pub limits : last.limits ≡ core.limits
  pub start : last.start ≡ core.start
  pub replays : Replays last.limits last.start last.history last.state
  pub its : HasItsLog tells bytes history chosen faults (log_origin bytes history chosen faults log) last later

-- A run ended, with the store as it is last: its history is one of these files, and the order is that of its events. The log has what
-- the history asks.
pub record EndsRun {D : Type 0} (tells : Type 0) (bytes : D → List ℕ) (history : D → History) (chosen : D → Option (List ℕ)) (faults : D → ℕ) (files : List (List Command)) (core : RecordedStore) (log : Option (LogState D)) (order : List ℕ) (all : List (List SessionReply)) (last : RecordedStore) (later : Option (LogState D)) : Type 0 where
  pub leaves : LeavesStore tells bytes history chosen faults core log last later
  pub follow : Follow files core.limits core.start last.history all
  pub order_is : order ≡ map (λ e. e.session) last.history
  pub ends : HasEnd files core.limits core.start order (fault_place last.history) all (length last.state.graph)

-- A run over a new store without a log ended, with the store as it is last: it has these limits and began in state s, its history is
-- one of these files, and the order is that of its events.
pub record EndsNewRun (files : List (List Command)) (l : Limits) (s : State) (order : List ℕ) (all : List (List SessionReply)) (last : RecordedStore) : Type 0 where
  pub limits : last.limits ≡ l
  pub start : last.start ≡ s
  pub replays : Replays last.limits last.start last.history last.state
  pub follow : Follow files l s last.history all
  pub order_is : order ≡ map (λ e. e.session) last.history
  pub ends : HasEnd files l s order None all (length last.state.graph)
