-- The longest names at the beginning of a text: PN_PREFIX and PN_LOCAL (Turtle 1.1 section 6.5).
use Rattle.std.specs.Prelude.{ℕ, zero, suc, Bool, false, ◌&&◌, List, [], ◌∷◌, ◌==◌, if◌then◌else◌}
use Rattle.rdf_lexical.specs.declared.classes.Class.TheVariants.{Hexadecimal, NameStart, Name, LocalStart, NameOrColon, LocalEscape}
use Rattle.rdf_lexical.specs.Classes.{holds, begins_with}
use Rattle.rdf_lexical.specs.Names.{with_dot, name_length}

-- two hexadecimal digits
abbrev pub begins_with_pair : List ℕ → Bool
begins_with_pair [] = false
begins_with_pair (c ∷ []) = false
begins_with_pair (c ∷ d ∷ cs) = holds Hexadecimal c && holds Hexadecimal d

-- how many characters stand for one in a local name: PN_CHARS or `:`, or PLX, which is `%` and two hexadecimal digits or
-- a backslash and a character of PN_LOCAL_ESC; 0 where none does
abbrev pub local_piece : List ℕ → ℕ
local_piece [] = 0
local_piece (c ∷ cs) = if c == 37 then (if begins_with_pair cs then 3 else 0) else
    (if c == 92 then (if begins_with LocalEscape cs then 2 else 0) else
    (if holds NameOrColon c then 1 else 0))

-- the characters of a piece, the first of which has been met, and what follows
abbrev pub with_piece : ℕ → (ℕ → ℕ) → ℕ
with_piece zero more = zero
with_piece (suc n) more = suc (more n)

-- `(PN_CHARS | '.' | ':' | PLX)*`, not ending in a dot, after so many characters of a piece
abbrev pub local_run : ℕ → List ℕ → ℕ
local_run n [] = 0
local_run (suc n) (c ∷ cs) = suc (local_run n cs)
local_run zero (c ∷ cs) = if c == 46 then with_dot (local_run 0 cs) else with_piece (local_piece (c ∷ cs)) (λ n. local_run n cs)

-- PN_LOCAL
abbrev pub local_length : List ℕ → ℕ
local_length cs = if begins_with LocalStart cs then local_run 0 cs else 0

-- PN_PREFIX
abbrev pub prefix_length : List ℕ → ℕ
prefix_length cs = if begins_with NameStart cs then name_length Name cs else 0
