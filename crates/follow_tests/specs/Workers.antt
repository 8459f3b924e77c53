-- What holds of a worker, between its turns.
use Rattle.std.specs.Prelude.{◌≡◌, true, Option, Some, None}
use Rattle.atomic_table.specs.Seated.{TableId}
use Rattle.turn_lock.specs.Callers.{Caller}
use Rattle.replica.specs.declared.entry.Entry.{Entry}

-- it has its pass, which is one of this lock
abbrev pub HasPass : {D : Type 0} → TableId → Option (Caller Entry D) → Type 0
HasPass lock None = ⊥
HasPass lock (Some caller) = caller.lock ≡ lock

abbrev pub IsFirst : {D : Type 0} → TableId → Caller Entry D → Type 0
IsFirst lock caller = (caller.lock ≡ lock) × (caller.known.first ≡ true)
