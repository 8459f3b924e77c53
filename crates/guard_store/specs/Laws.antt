-- What turns, openings and meetings do to what callers have seen.
use Rattle.std.specs.Prelude.{◌≡◌, ◌⊎◌, ℕ, ◌==◌, ◌||◌, Bool, true, false, List, [], ◌∷◌, ◌++◌}
use Rattle.std.specs.List.{filter}
use Rattle.turn_lock.specs.History.{OthersAdded, has_number, reserved, under}
use Rattle.turn_lock.specs.Callers.{Caller, met_caller}
use Rattle.store_model.specs.declared.event.Event.{Event}
use Rattle.store_model.specs.declared.event.Action.TheVariants as actions
use Rattle.store_model.specs.declared.event.Reply.TheVariants as replies
use Rattle.store_model.specs.Store.{State, Step, Replays}
use Rattle.session_laws.specs.Following.{is_opening}
use Rattle.guard_store.specs.Slots.{Origin}
use Rattle.guard_store.specs.Sessions.{StoreKeeper, StoreSession}
use Rattle.guard_store.specs.declared.faults.OpenFault.{OpenFault}
use Rattle.guard_store.specs.declared.faults.OpenFault.TheVariants.{SessionsFull, Memory}
use Rattle.guard_store.specs.Fronts.{At, SharedStore, Turn, session_of, void_of}
use Rattle.guard_store.specs.Callers.{IsCaller, IsKeeper, IsSession}
use Rattle.guard_store.specs.Answers.{Opens, OpensNothing, OpensSession, event_of}

-- The new front is the old one, what others added, and this event; the event is the plain store's step from where all
-- before it leads. Under the number of a caller that holds it stands just this event more.
pub record AddsOne (store : SharedStore) (old new : Caller Event Origin) (e : Event) : Type 0 where
  pub others : List Event
  pub front : new.known.front ≡ old.known.front ++ others ++ e ∷ []
  pub before : State
  pub replays : Replays store.limits store.start (old.known.front ++ others) before
  pub after : State
  pub step : Step store.limits before e after
  pub own : has_number old.known.numbers e.session ≡ true → under session_of e.session new.known.front ≡ under session_of e.session old.known.front ++ e ∷ []

abbrev pub TurnsAddOne : Type 0
TurnsAddOne = (store : SharedStore) (old new : Caller Event Origin) (e : Event) → Turn store old new e → AddsOne store old new e

-- Both callers have seen the same. Of the entries that the first caller alone makes, openings and those under 0, they have
-- seen this one more; the new one holds the number.
pub record OpensOne (store : SharedStore) (old kept new : Caller Event Origin) (i : ℕ) : Type 0 where
  pub adds : AddsOne store old kept (event_of i actions.Open (replies.Session i))
  pub same : new.known.front ≡ kept.known.front
  pub reserved : reserved session_of false kept.known.front ≡ reserved session_of false old.known.front ++ event_of i actions.Open (replies.Session i) ∷ []
  pub own : has_number new.known.numbers i ≡ true

abbrev pub OpeningsAddOne : Type 0
OpeningsAddOne = (store : SharedStore) (old kept new : Caller Event Origin) (i : ℕ) → old.known.first ≡ true → Opens store old kept new i → OpensOne store old kept new i

-- what both have seen begins the front; it has no opening and no entry under 0 more than the keeper had seen
pub record MeetsBoth (keeper session after : Caller Event Origin) : Type 0 where
  pub added : List Event
  pub front : after.known.front ≡ keeper.known.front ++ added
  pub more : List Event
  pub other : after.known.front ≡ session.known.front ++ more
  pub reserved : reserved session_of false after.known.front ≡ reserved session_of false keeper.known.front
  pub own : (i : ℕ) → has_number session.known.numbers i ≡ true → under session_of i after.known.front ≡ under session_of i session.known.front

abbrev pub MeetingsKeepFronts : Type 0
MeetingsKeepFronts = (keeper session after : Caller Event Origin) → keeper.known.first ≡ true → OthersAdded session_of false keeper.known after.known.front → OthersAdded session_of false session.known after.known.front → MeetsBoth keeper session after

-- the entries that a keeper alone makes: openings, and those under 0
abbrev pub is_keepers : Event → Bool
is_keepers e = is_opening e.action || e.session == 0

abbrev pub keepers_entries : List Event → List Event
keepers_entries front = filter is_keepers front

-- The keeper has met session i, whose last front this was: it holds the number, and of the entries under it has seen just
-- those.
pub record HasMet (store : SharedStore) (keeper : Caller Event Origin) (i : ℕ) (last : List Event) : Type 0 where
  pub caller : IsCaller store i keeper
  pub entries : under session_of i keeper.known.front ≡ under session_of i last

-- From old to new the keeper has seen these openings and entries under 0 more, and no other. Of each session that it had met
-- it still has just the entries of that session's last front.
pub record KeepsEntries (store : SharedStore) (old new : Caller Event Origin) (more : List Event) : Type 0 where
  pub keepers : At store new.known.front (λ s. keepers_entries new.known.front ≡ keepers_entries old.known.front ++ more)
  pub met : (i : ℕ) (last : List Event) → HasMet store old i last → HasMet store new i last

-- an opening adds its entry
abbrev pub OpeningsKeepEntries : Type 0
OpeningsKeepEntries = (store : SharedStore) (old new : StoreKeeper) (s : StoreSession) → IsKeeper store old → OpensSession store old new s → KeepsEntries store old.pass new.pass (event_of s.number actions.Open (replies.Session s.number) ∷ [])

-- the entry of a call that opened nothing; where memory ran out there may be none
abbrev pub AreOfFault : OpenFault → List Event → Type 0
AreOfFault SessionsFull more = more ≡ event_of 0 actions.Open replies.SessionsFull ∷ []
AreOfFault Memory more = (more ≡ []) ⊎ (more ≡ void_of 0 ∷ [])

abbrev pub FailedOpeningsKeepEntries : Type 0
FailedOpeningsKeepEntries = (store : SharedStore) (f : OpenFault) (old new : StoreKeeper) → IsKeeper store old → OpensNothing f store old new → (more : List Event) × AreOfFault f more × KeepsEntries store old.pass new.pass more

-- a meeting adds no such entry, and from then on the session is one that was met
abbrev pub MeetingsKeepEntries : Type 0
MeetingsKeepEntries =
    (store : SharedStore) (keeper after : StoreKeeper) (session : StoreSession) → IsKeeper store keeper → IsSession store session → after ≡ record keeper { pass = met_caller keeper.pass session.pass }
    → OthersAdded session_of false keeper.pass.known after.pass.known.front → OthersAdded session_of false session.pass.known after.pass.known.front
    → HasMet store after.pass session.number session.pass.known.front × KeepsEntries store keeper.pass after.pass []
