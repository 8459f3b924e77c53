-- What a file holds, as far as it is told, within the length that a file may have.
use Rattle.std.specs.Prelude.{◌≡◌, ℕ, ◌<◌, List, length, Option}
use Rattle.outside.specs.Files.{Contents, Loads}

-- a file may have 16,777,216 bytes; one more is asked for, to see whether it has
abbrev pub room : ℕ
room = 16777217

-- the file holds this text, within its length
abbrev pub HoldsText : Option Contents → List ℕ → List ℕ → Type 0
HoldsText held name bytes = Loads held name room bytes × (length bytes < room)

abbrev pub IsTooLong : Option Contents → List ℕ → Type 0
IsTooLong held name = (bytes : List ℕ) × Loads held name room bytes × (length bytes ≡ room)
