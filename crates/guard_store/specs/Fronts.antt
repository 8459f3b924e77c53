-- What a turn of the store adds to what its caller has seen.
use Rattle.std.specs.Prelude.{◌≡◌, ℕ, false, List, [], ◌∷◌, ◌++◌, Option, Some, ◌⊎◌}
use Rattle.atomic_table.specs.Seated.{TableId}
use Rattle.turn_lock.specs.History.{OthersAdded, MayAdd, known_after}
use Rattle.turn_lock.specs.Callers.{Caller}
use Rattle.store_model.specs.declared.event.Limits.{Limits}
use Rattle.store_model.specs.declared.event.Event.{Event}
use Rattle.store_model.specs.declared.event.Action.TheVariants as actions
use Rattle.store_model.specs.declared.event.Reply.TheVariants as replies
use Rattle.store_model.specs.Store.{State, RecordedStore, TakesStep, Step, Replays}
use Rattle.guard_store.specs.Slots.{LogOrigin, Origin}

-- a store that callers share: which lock it has, its limits, the state that its history begins at, and what the disk of its log
-- told then, where it has one
pub record SharedStore : Type 0 where
  pub id : TableId
  pub limits : Limits
  pub start : State
  pub log : Option LogOrigin

-- what its callers know of it from the first on
abbrev pub opening_of : SharedStore → Origin
opening_of store = record { limits = store.limits; start = store.start; log = store.log }

abbrev pub session_of : Event → ℕ
session_of e = e.session

-- the caller once its event stands behind what it found in its turn
abbrev pub turned_pass : Caller Event Origin → List Event → Event → Caller Event Origin
turned_pass old seen e = record old { known = known_after session_of e (seen ++ e ∷ []) old.known; own = old.own ++ e ∷ [] }

-- The caller's event stands right behind what was there before it, to which others alone had added; it is the plain
-- store's step from where that leads.
pub record Turn (store : SharedStore) (old new : Caller Event Origin) (e : Event) : Type 0 where
  pub seen : List Event
  pub others : OthersAdded session_of false old.known seen
  pub before : State
  pub replays : Replays store.limits store.start seen before
  pub after : State
  pub step : Step store.limits before e after
  pub caller : new ≡ turned_pass old seen e

-- the event of a turn that ran out of memory
abbrev pub void_of : ℕ → Event
void_of i = record { session = i; action = actions.Void; reply = replies.Nothing }

-- memory ran out before the turn, which then is none, or inside it
abbrev pub Fails : SharedStore → Caller Event Origin → Caller Event Origin → ℕ → Type 0
Fails store old new i = (new ≡ old) ⊎ Turn store old new (void_of i)

-- of the state to which these events lead
abbrev pub At : SharedStore → List Event → (State → Type 0) → Type 0
At store front P = (s : State) → Replays store.limits store.start front s → P s

-- The caller has entered its turn: the core stands for what it had seen and what others alone added.
pub record Entered (store : SharedStore) (pass held : Caller Event Origin) (core : RecordedStore) : Type 0 where
  pub opening : pass.opening ≡ Some (opening_of store)
  pub held_is : held ≡ record pass { known = record pass.known { front = core.history } }
  pub others : OthersAdded session_of false pass.known core.history
  pub limits : core.limits ≡ store.limits
  pub start : core.start ≡ store.start
  pub replays : Replays core.limits core.start core.history core.state

-- The caller may leave its turn with this core: it took one step, which the caller may add.
pub record MayLeave (store : SharedStore) (held : Caller Event Origin) (next : RecordedStore) : Type 0 where
  pub pass : Caller Event Origin
  pub core : RecordedStore
  pub event : Event
  pub entered : Entered store pass held core
  pub takes : TakesStep core next event
  pub may : MayAdd session_of false held.known event
