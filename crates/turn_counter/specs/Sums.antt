-- Sums over a history, and what one addition does.
use Rattle.std.specs.Prelude.{◌≡◌, ℕ, ◌%◌, ◌^◌, zero, suc, false, List, [], ◌∷◌, ◌++◌}
use Rattle.std.specs.List.{sum_by}
use Rattle.turn_lock.specs.History.{OthersAdded, known_after}
use Rattle.turn_lock.specs.Callers.{Caller}
use Rattle.turn_counter.specs.declared.entry.Entry.{Entry}

abbrev pub number_of : Entry → ℕ
number_of entry = entry.number

-- the sum of all amounts
abbrev pub total_of : List Entry → ℕ
total_of entries = sum_by (λ (e : Entry). e.amount) entries

-- the caller's addition stands right behind the entries of others that came before, and behind its own ones; the reply is the sum up to it, modulo 2^64
pub record Adds {D : Type 0} (before : Caller Entry D) (entry : Entry) (after : Caller Entry D) (reply : ℕ) : Type 0 where
  pub seen : List Entry
  pub others : OthersAdded number_of false before.known seen
  pub caller : after ≡ record before { known = known_after number_of entry (seen ++ entry ∷ []) before.known; own = before.own ++ entry ∷ [] }
  pub sum : reply ≡ total_of (seen ++ entry ∷ []) % 2 ^ 64

-- the additions of so many turns: 0, 1, 2 and on
abbrev pub additions : ℕ → ℕ → List Entry
additions number zero = []
additions number (suc times) = additions number times ++ record { number = number; amount = times } ∷ []
