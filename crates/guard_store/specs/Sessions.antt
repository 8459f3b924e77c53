-- The keeper and the sessions of a store, as their callers keep them.
use Rattle.std.specs.Prelude.{ℕ, Option}
use Rattle.turn_lock.specs.Callers.{Caller}
use Rattle.store_model.specs.declared.event.Event.{Event}
use Rattle.store_model.specs.Snapshots.{Snapshot}
use Rattle.session_transaction.specs.declared.transaction.OpenTransaction.{OpenTransaction}
use Rattle.guard_store.specs.Slots.{Origin}

-- what it has seen, and how many sessions it opened
pub record StoreKeeper : Type 0 where
  pub pass : Caller Event Origin
  pub opened : ℕ

-- what it has seen, its number, its open transaction, and the snapshot of its last head
pub record StoreSession : Type 0 where
  pub pass : Caller Event Origin
  pub number : ℕ
  pub current : Option OpenTransaction
  pub head : Option Snapshot
