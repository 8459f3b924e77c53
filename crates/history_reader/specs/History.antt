-- The text of a history.
use Rattle.std.specs.Prelude.{ℕ, ◌+◌, ◌*◌, ◌-◌, ◌&&◌, ◌==◌, List, [], ◌∷◌, map, option_map, Option, Some, None, nat_le, if◌then◌else◌, bytes_eq, codes}
use Rattle.std.specs.List.{slice_split}
use Rattle.std.specs.Io.BufRead.{strip_last}

-- The session that a place names: a number from 1 to 64, as a decimal without sign or leading zero.
abbrev pub one_digit : ℕ → Option ℕ
one_digit d = if nat_le 49 d && nat_le d 57 then Some (d - 48) else None

abbrev pub two_digits : ℕ → ℕ → Option ℕ
two_digits t u = if nat_le 49 t && nat_le t 57 && nat_le 48 u && nat_le u 57 && nat_le ((t - 48) * 10 + (u - 48)) 64 then Some ((t - 48) * 10 + (u - 48)) else None

abbrev pub session_of : List ℕ → Option ℕ
session_of [] = None
session_of (d ∷ []) = one_digit d
session_of (t ∷ u ∷ []) = two_digits t u
session_of (t ∷ u ∷ v ∷ more) = None

-- the parts after the word `history`, where that comes first
abbrev pub places_after : List (List ℕ) → Option (List (List ℕ))
places_after [] = None
places_after (word ∷ places) = if bytes_eq word (codes "history") then Some places else None

-- The places of a text: without one LF at its end it is cut at each space; the first part is `history`, and the others are the
-- places.
abbrev pub places_of : List ℕ → Option (List (List ℕ))
places_of text = places_after (slice_split (λ c. c == 32) (strip_last 10 text))

-- The sessions that the places of a text name.
abbrev pub history_of : List ℕ → Option (List (Option ℕ))
history_of text = option_map (map session_of) (places_of text)
