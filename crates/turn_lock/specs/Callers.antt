-- What contracts say of a lock and of its callers.
use Rattle.std.specs.Prelude.{ℕ, ◌+◌, ◌-◌, ◌++◌, false, List, [], Option}
use Rattle.atomic_table.specs.Seated.{TableId}
use Rattle.turn_lock.specs.declared.view.Known.{Known}
use Rattle.turn_lock.specs.History.{without_number, number_among, longer}

-- a lock: which one, and how many callers it has at most
pub record Lock : Type 0 where
  pub id : TableId
  pub seats : ℕ

-- a caller: of which lock, what it has seen, how many it may still split off, the plain data of the state at the start, and the entries that it made
pub record Caller (E D : Type 0) : Type 0 where
  pub lock : TableId
  pub known : Known E
  pub spare : ℕ
  pub opening : Option D
  pub own : List E

abbrev pub kept_numbers : {E : Type 0} → ℕ → Known E → Known E
kept_numbers n known = record known { numbers = without_number n known.numbers }

abbrev pub given_numbers : {E : Type 0} → ℕ → Known E → Known E
given_numbers n known = record known { numbers = number_among n known.numbers; first = false }

-- what a caller knows once it has met another: the longer front, and the other's numbers too
abbrev pub met_known : {E : Type 0} → Known E → Known E → Known E
met_known known other = record known { front = longer known.front other.front; numbers = known.numbers ++ other.numbers }

module _ {E D : Type 0} where
  -- the two callers that one becomes when another is split off with the number n. The new one has made no entry
  abbrev pub kept_caller : ℕ → Caller E D → Caller E D
  kept_caller n caller = record caller { known = kept_numbers n caller.known; spare = caller.spare - 1 }

  abbrev pub new_caller : ℕ → Caller E D → Caller E D
  new_caller n caller = record caller { known = given_numbers n caller.known; spare = 0; own = [] }

  -- the entries that the other made stand behind its own
  abbrev pub met_caller : Caller E D → Caller E D → Caller E D
  met_caller caller other = record caller { known = met_known caller.known other.known; spare = caller.spare + 1; own = caller.own ++ other.own }
