-- The characters of a text by its UTF-8.
use Rattle.std.specs.Prelude.{ℕ, ◌≡◌, ◌<◌, ◌^◌, List, length}
use Rattle.std.specs.Str.{IsUtf8, chars}

-- the bytes are a text of so many characters, and no memory has more
abbrev pub IsHeld : List ℕ → ℕ → Type 0
IsHeld bytes count = IsUtf8 bytes × (count ≡ length (chars bytes)) × (length bytes < 2 ^ 63)
