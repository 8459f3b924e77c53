-- How far a run has come: what a program that plays sessions over a store has to say of each of its steps.
use Rattle.std.specs.Prelude.{◌≡◌, ℕ, ◌+◌, ◌≤◌, List, [], ◌∷◌, ◌++◌, length, map, drop, None}
use Rattle.std.specs.List.{AllByRecursion}
use Rattle.store_model.specs.declared.event.Limits.{Limits}
use Rattle.store_model.specs.declared.event.Event.{Event}
use Rattle.store_model.specs.Store.{RecordedStore, State}
use Rattle.session_model.specs.declared.command.Command.{Command}
use Rattle.session_model.specs.declared.reply.SessionReply.{SessionReply}
use Rattle.session_model.specs.Sessions.{SessionState, world, RunsInOrder, start, up_to_event}

-- the sessions of the events, in order
abbrev pub order_of : List Event → List ℕ
order_of events = map (λ e. e.session) events

-- Session i went from p to q while the store went from old to new, and whatever the other sessions are, they rest.
pub record Advances (i : ℕ) (old new : RecordedStore) (p q : SessionState) : Type 0 where
  pub events : List Event
  pub history : new.history ≡ old.history ++ events
  pub limits : new.limits ≡ old.limits
  pub start : new.start ≡ old.start
  pub opened : new.state.opened ≡ old.state.opened
  pub runs : (before after : List SessionState) → i ≡ length before + 1 → RunsInOrder old.limits (world old.state (before ++ p ∷ after)) (order_of events) None (world new.state (before ++ q ∷ after))

-- so many sessions were opened
pub record OpensSessions (old new : RecordedStore) (count : ℕ) : Type 0 where
  pub events : List Event
  pub history : new.history ≡ old.history ++ events
  pub limits : new.limits ≡ old.limits
  pub opened : new.state.opened ≡ old.state.opened + count
  pub runs : (sessions : List SessionState) → new.state.opened ≤ length sessions → RunsInOrder old.limits (world old.state sessions) (order_of events) None (world new.state sessions)

-- from a state on, the first k files were played to their end, one after another
pub record HasRun (files : List (List Command)) (l : Limits) (s : State) (store : RecordedStore) (k : ℕ) (all : List (List SessionReply)) : Type 0 where
  pub over : List SessionState
  pub count : length over ≡ k
  pub left : AllByRecursion (λ p. p.commands ≡ []) over
  pub replies : all ≡ map (λ p. p.replies) over
  pub limits : store.limits ≡ l
  pub opened : store.state.opened ≡ length files
  pub runs : RunsInOrder l (start s files) (order_of store.history) None (world store.state (over ++ map (λ cs. up_to_event None cs []) (drop k files)))
