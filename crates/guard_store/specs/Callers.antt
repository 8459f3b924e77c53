-- The callers of a store: its keeper, and its sessions.
use Rattle.std.specs.Prelude.{◌≡◌, ℕ, ◌+◌, ◌≤◌, true, List, Option, Some, None, []}
use Rattle.turn_lock.specs.History.{has_number}
use Rattle.turn_lock.specs.Callers.{Caller}
use Rattle.store_model.specs.declared.event.Event.{Event}
use Rattle.store_model.specs.Snapshots.{Snapshot}
use Rattle.store_model.specs.Store.{State, IsOpened, HasChange, NetNamed}
use Rattle.session_transaction.specs.declared.transaction.OpenTransaction.{OpenTransaction}
use Rattle.commit_core.specs.Logged.{IsLoggable}
use Rattle.session_transaction.specs.Checks.{IsVersionIn, KeepsIn}
use Rattle.session_transaction.specs.Transactions.{FitsState}
use Rattle.guard_store.specs.Slots.{Origin}
use Rattle.guard_store.specs.Sessions.{StoreKeeper, StoreSession}
use Rattle.guard_store.specs.Fronts.{SharedStore, At, opening_of}

-- a caller of the store, which session i is
pub record IsCaller (store : SharedStore) (i : ℕ) (c : Caller Event Origin) : Type 0 where
  pub lock : c.lock ≡ store.id
  pub opening : c.opening ≡ Some (opening_of store)
  pub own : has_number c.known.numbers i ≡ true
  pub opened : At store c.known.front (λ s. IsOpened s i)

-- the open transaction, if there is one, is one of this store
abbrev pub FitsIn : Option OpenTransaction → State → Type 0
FitsIn None s = Unit {0}
FitsIn (Some w) s = FitsState w.transaction s

-- the open transaction has no verdict itself, what is kept of a check of it is a verdict of its changes in this history, and what
-- the log's record of it would have to give back can be read
abbrev pub KeptIn : SharedStore → List Event → Option OpenTransaction → Type 0
KeptIn store front None = Unit {0}
KeptIn store front (Some w) = (w.transaction.verdict ≡ None) × KeepsIn store.limits store.start front w.transaction.net w.checked × IsLoggable w.transaction

-- where a transaction is open, the snapshot of the last head is a version of this history in which the terms of its changes are
-- named
abbrev pub HeadIn : SharedStore → List Event → Option OpenTransaction → Option Snapshot → Type 0
HeadIn store front None head = Unit {0}
HeadIn store front (Some w) None = Unit {0}
HeadIn store front (Some w) (Some n) = IsVersionIn store.limits store.start front n × NetNamed n.named w.transaction.net

-- a session of this store
pub record IsSession (store : SharedStore) (session : StoreSession) : Type 0 where
  pub caller : IsCaller store session.number session.pass
  pub fits : At store session.pass.known.front (FitsIn session.current)
  pub kept : KeptIn store session.pass.known.front session.current
  pub head : HeadIn store session.pass.known.front session.current session.head

-- a session of some store
abbrev pub IsOfStore : StoreSession → Type 0
IsOfStore session = (store : SharedStore) × IsSession store session

-- the keeper of this store, which has seen all openings, none of them before its history; it has a place for each of the 64
-- sessions that isn't open
pub record IsKeeper (store : SharedStore) (keeper : StoreKeeper) : Type 0 where
  pub lock : keeper.pass.lock ≡ store.id
  pub opening : keeper.pass.opening ≡ Some (opening_of store)
  pub first : keeper.pass.known.first ≡ true
  pub fresh : store.start.opened ≡ 0
  pub opened : At store keeper.pass.known.front (λ s. s.opened ≡ keeper.opened)
  pub room : 64 ≤ keeper.pass.spare + keeper.opened

-- a transaction is open that changes a triple or stages shapes
abbrev pub HasWork : Option OpenTransaction → Type 0
HasWork None = ⊥
HasWork (Some w) = HasChange w.transaction.net w.transaction.staged

-- the open transaction, if there is one, neither changes a triple nor stages shapes
abbrev pub OnlyReads : Option OpenTransaction → Type 0
OnlyReads None = Unit {0}
OnlyReads (Some w) = (w.transaction.net ≡ []) × (w.transaction.staged ≡ None)
