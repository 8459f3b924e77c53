-- Places in a text, and their lines.
use Rattle.std.specs.Prelude.{◌≡◌, ℕ, ◌+◌, ◌≤◌, ◌<◌, List, length, take, count_by, encode_utf8_all, ◌==◌}
use Rattle.turtle_lex.specs.declared.token.TextPlace.{TextPlace}
use Rattle.turtle_lex.specs.declared.token.Token.{Token}

-- how many LF a text has
abbrev pub line_feeds : List ℕ → ℕ
line_feeds cs = count_by (λ c. c == 10) cs

-- The place before which so many characters stand: its bytes are those of their UTF-8, and lines are one more than the
-- number of LF before.
abbrev pub place_at : List ℕ → ℕ → TextPlace
place_at text at = record { at = at; byte = length (encode_utf8_all (take at text)); line = 1 + line_feeds (take at text) }

-- a place of this text
abbrev pub IsPlace : List ℕ → TextPlace → Type 0
IsPlace text place = (place.at ≤ length text) × (place ≡ place_at text place.at)

-- a token of this text has one character or more, between two places of it
abbrev pub HasSpan : List ℕ → Token → Type 0
HasSpan text token = IsPlace text token.start × IsPlace text token.end × (token.start.at < token.end.at)
