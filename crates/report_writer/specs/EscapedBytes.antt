-- How the bytes of a literal's lexical form are written within its quotes.
use Rattle.std.specs.Prelude.{◌==◌, ℕ, List, [], ◌∷◌, Option, Some, None, if◌then◌else◌, codes}
use Rattle.std.specs.Option.{unwrap_or}

-- how a byte is escaped, if it is: the quote, the backslash, LF and CR (N-Triples section 2.3, ECHAR)
abbrev pub escape : ℕ → Option (List ℕ)
escape b = if b == 34 then Some (codes "\\\"") else (if b == 92 then Some (codes "\\\\") else (if b == 10 then Some (codes "\\n") else (if b == 13 then Some (codes "\\r") else None)))

abbrev pub escaped_byte : ℕ → List ℕ
escaped_byte b = unwrap_or (escape b) (b ∷ [])
