-- Histories of numbered entries, and what a caller may add to one.
use Rattle.std.specs.Prelude.{◌≡◌, ◌≢◌, ◌⊎◌, ℕ, ◌==◌, Bool, true, false, not, if◌then◌else◌, List, [], ◌∷◌, ◌++◌, length, nat_lt}
use mathlib.Core.List.{IsPrefix}
use Rattle.turn_lock.specs.declared.view.Known.{Known}

-- whether the number stands in the list
abbrev pub has_number : List ℕ → ℕ → Bool
has_number [] n = false
has_number (k ∷ ks) n = if k == n then true else has_number ks n

abbrev pub is_empty : {E : Type 0} → List E → Bool
is_empty [] = true
is_empty (e ∷ es) = false

module _ {E : Type 0} (number : E → ℕ) where
  -- the entries under a number, in order
  abbrev pub under : ℕ → List E → List E
  under n [] = []
  under n (e ∷ es) = if number e == n then e ∷ under n es else under n es

  -- a number is made by the first entry under it. 0 is never made
  abbrev pub IsMade : List E → ℕ → Type 0
  IsMade history n = (n ≢ 0) × (under n history ≢ [])

  -- what the caller knows once the entry stands at the end of its front: a number that the entry makes is its own from here
  abbrev pub known_after : E → List E → Known E → Known E
  known_after e front known = record known { front = front; numbers = (if number e == 0 then known.numbers else if has_number known.numbers (number e) then known.numbers else number e ∷ known.numbers) }

  module _ (is_zero_shared : Bool) where
    -- whether the first caller alone makes this entry behind those before it: it makes a number, or stands under a 0 that isn't everybody's
    abbrev pub is_reserved : List E → E → Bool
    is_reserved before e = if number e == 0 then not is_zero_shared else is_empty (under (number e) before)

    abbrev pub reserved_after : List E → List E → List E
    reserved_after before [] = []
    reserved_after before (e ∷ es) = if is_reserved before e then e ∷ reserved_after (before ++ e ∷ []) es else reserved_after (before ++ e ∷ []) es

    -- the entries of a history that the first caller alone makes
    abbrev pub reserved : List E → List E
    reserved history = reserved_after [] history

    -- the history is what the caller has seen, and then entries of others: none under a number of its own, and none that is reserved where it is the first
    pub record OthersAdded (known : Known E) (history : List E) : Type 0 where
      pub begins : IsPrefix known.front history
      pub own : (n : ℕ) → has_number known.numbers n ≡ true → under n history ≡ under n known.front
      pub first : known.first ≡ true → reserved history ≡ reserved known.front

    -- a caller that has seen the whole history may add the entry: under a number of its own; as the first, a reserved one; under a 0 that is everybody's
    abbrev pub MayAdd : Known E → E → Type 0
    MayAdd known e = (has_number known.numbers (number e) ≡ true) ⊎ (((known.first ≡ true) × (is_reserved known.front e ≡ true)) ⊎ ((number e ≡ 0) × (is_zero_shared ≡ true)))

-- the longer of two lists, the first where they are as long
abbrev pub longer : {E : Type 0} → List E → List E → List E
longer xs ys = if nat_lt (length xs) (length ys) then ys else xs

-- the numbers that stay where n is given away
abbrev pub without_number : ℕ → List ℕ → List ℕ
without_number n [] = []
without_number n (k ∷ ks) = if k == n then without_number n ks else k ∷ without_number n ks

-- the number n, where it is among these
abbrev pub number_among : ℕ → List ℕ → List ℕ
number_among n ks = if has_number ks n then n ∷ [] else []
