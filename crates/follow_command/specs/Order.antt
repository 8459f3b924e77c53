-- The text of an order, in which records are fed.
use Rattle.std.specs.Prelude.{◌≡◌, ◌⊎◌, ℕ, ◌+◌, ◌≤◌, ◌==◌, List, ◌∷◌, ◌++◌, length, map, codes}
use Rattle.std.specs.List.{AllByRecursion, slice_split}
use Rattle.std.specs.Fmt.{decimal}
use Rattle.std.specs.Io.BufRead.{strip_last}
use Rattle.follow_command.specs.declared.fault.FollowFault.{FollowFault}
use Rattle.follow_command.specs.declared.fault.FollowFault.TheVariants.{ReadFault, TooLong, BadLog, BadOrder, Memory}

-- the number of a record, of so many
abbrev pub IsOneOf : ℕ → ℕ → Type 0
IsOneOf count n = (1 ≤ n) × (n ≤ count)

-- a place names a record by the decimal of its number, without sign or leading zero
abbrev pub NamesRecord : ℕ → List ℕ → ℕ → Type 0
NamesRecord count place n = (place ≡ decimal n) × IsOneOf count n

abbrev pub NamesNone : ℕ → List ℕ → Type 0
NamesNone count place = (n : ℕ) → NamesRecord count place n → ⊥

-- the places name these records
pub record NameRecords (count : ℕ) (places : List (List ℕ)) (numbers : List ℕ) : Type 0 where
  pub places_are : places ≡ map decimal numbers
  pub each : AllByRecursion (IsOneOf count) numbers

-- place k, from 1, is the first that names none
pub record IsFirstBad (count : ℕ) (places : List (List ℕ)) (k : ℕ) : Type 0 where
  pub numbers : List ℕ
  pub each : AllByRecursion (IsOneOf count) numbers
  pub place : List ℕ
  pub rest : List (List ℕ)
  pub places_are : places ≡ map decimal numbers ++ place ∷ rest
  pub none : NamesNone count place
  pub place_is : k ≡ length numbers + 1

-- Without one LF at its end the text is cut at each space: the first part is `order`, and the others are the places.
abbrev pub HasPlaces : List ℕ → List (List ℕ) → Type 0
HasPlaces text places = slice_split (λ c. c == 32) (strip_last 10 text) ≡ codes "order" ∷ places

-- the text is the order of these records
abbrev pub IsOrder : ℕ → List ℕ → List ℕ → Type 0
IsOrder count text numbers = (places : List (List ℕ)) × HasPlaces text places × NameRecords count places numbers

-- place k is the first that names no record; 0 where the text doesn't begin as an order
abbrev pub IsBadOrder : ℕ → List ℕ → ℕ → Type 0
IsBadOrder count text k = ((k ≡ 0) × ((places : List (List ℕ)) → HasPlaces text places → ⊥)) ⊎ ((places : List (List ℕ)) × HasPlaces text places × IsFirstBad count places k)

-- why a text is no order, or memory ran out; not seen by any caller
abbrev pub RefusesOrder : ℕ → List ℕ → FollowFault → Type 0
RefusesOrder count text ReadFault = ⊥
RefusesOrder count text (TooLong file) = ⊥
RefusesOrder count text (BadLog number) = ⊥
RefusesOrder count text (BadOrder place) = IsBadOrder count text place
RefusesOrder count text Memory = Unit {0}

abbrev pub RefusesPlaces : ℕ → List (List ℕ) → FollowFault → Type 0
RefusesPlaces count places ReadFault = ⊥
RefusesPlaces count places (TooLong file) = ⊥
RefusesPlaces count places (BadLog number) = ⊥
RefusesPlaces count places (BadOrder place) = IsFirstBad count places place
RefusesPlaces count places Memory = Unit {0}
