-- What holds of a worker, between its turns.
use Rattle.std.specs.Prelude.{◌≡◌, ℕ, ◌+◌, ◌^◌, ◌%◌, ◌<◌, ◌≤◌, List, [], length, slice_index_or, true, Option, Some, None}
use Rattle.atomic_table.specs.Seated.{TableId}
use Rattle.turn_lock.specs.History.{has_number, under}
use Rattle.turn_lock.specs.Callers.{Caller}
use Rattle.turn_counter.specs.declared.entry.Entry.{Entry}
use Rattle.turn_counter.specs.declared.worker.Worker.{Worker}
use Rattle.turn_counter.specs.Sums.{number_of, additions, total_of}

-- the caller has the number, and made so many additions under it
pub record HasAdded {D : Type 0} (lock : TableId) (number times : ℕ) (caller : Caller Entry D) : Type 0 where
  pub of : caller.lock ≡ lock
  pub own : has_number caller.known.numbers number ≡ true
  pub additions_are : under number_of number caller.known.front ≡ additions number times

abbrev pub IsCaller : {D : Type 0} → TableId → ℕ → ℕ → Option (Caller Entry D) → Type 0
IsCaller lock number times None = ⊥
IsCaller lock number times (Some caller) = HasAdded lock number times caller

-- the reply is the sum of all that the caller has seen, modulo 2^64: its own last addition stands at the end of that
abbrev pub IsReply : {D : Type 0} → ℕ → Option (Caller Entry D) → Type 0
IsReply reply None = ⊥
IsReply reply (Some caller) = reply ≡ total_of caller.known.front % 2 ^ 64

abbrev pub IsWorker : TableId → Worker → Type 0
IsWorker lock worker = IsCaller lock worker.number (worker.done + 1) worker.pass × IsReply worker.sum worker.pass

-- nobody made the number, or a larger one
abbrev pub IsFresh : List Entry → ℕ → Type 0
IsFresh history number = (n : ℕ) → number ≤ n → under number_of n history ≡ []

abbrev pub IsFirst : {D : Type 0} → TableId → Caller Entry D → Type 0
IsFirst lock caller = (caller.lock ≡ lock) × (caller.known.first ≡ true)

-- the workers have the numbers from 1 on
abbrev pub AreNumbered : List Worker → Type 0
AreNumbered workers = (i : ℕ) (d : Worker) → i < length workers → (slice_index_or workers i d).number ≡ i + 1

-- of each of these workers the history has what it added, 0 up to so many, in this order, and nothing else under its number
abbrev pub HasAllWork : ℕ → ℕ → List Entry → Type 0
HasAllWork workers times history = (k : ℕ) → k < workers → under number_of (k + 1) history ≡ additions (k + 1) (times + 1)
