-- Escapes of strings and IRIs, after their backslash (Turtle 1.1 section 6.4).
use Rattle.std.specs.Prelude.{ℕ, suc, ◌≤◌, ◌<◌, List, [], ◌∷◌, length, take, Option, Some, None, ◌==◌, nat_lt, if◌then◌else◌}
use Rattle.rdf_lexical.specs.Escapes.{escaped_char, numbered_char}
use Rattle.rdf_lexical.specs.declared.classes.Class.TheVariants.{Hexadecimal}
use Rattle.rdf_lexical.specs.declared.escapes.Escape.{Escape}
use Rattle.rdf_lexical.specs.declared.escapes.Escape.TheVariants.{Character, Cut, Faulty}
use Rattle.rdf_lexical.specs.Classes.{run_length}

-- an escape of so many characters after the backslash, if it stands for one
abbrev pub escape_of : ℕ → Option ℕ → Escape
escape_of length (Some c) = Character c length
escape_of length None = Faulty

-- UCHAR by its hexadecimal digits, after `u` or `U`
abbrev pub numbered_escape : ℕ → List ℕ → Escape
numbered_escape count cs = if nat_lt (run_length Hexadecimal cs) count then (if run_length Hexadecimal cs == length cs then Cut else Faulty) else
    escape_of (suc count) (numbered_char (take count cs))

-- ECHAR by its character
abbrev pub character_escape : ℕ → Escape
character_escape c = escape_of 1 (escaped_char c)

abbrev pub escape_at : List ℕ → Escape
escape_at [] = Cut
escape_at (c ∷ cs) = if c == 117 then numbered_escape 4 cs else (if c == 85 then numbered_escape 8 cs else character_escape c)

-- an escape has one character or more after its backslash, and at most so many
abbrev pub HasLength : Escape → ℕ → Type 0
HasLength (Character c n) most = (0 < n) × (n ≤ most)
HasLength Cut most = Unit {0}
HasLength Faulty most = Unit {0}
