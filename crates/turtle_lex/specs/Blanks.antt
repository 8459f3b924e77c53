-- White space and comments, which may stand before any token (Turtle 1.1 section 6.2).
use Rattle.std.specs.Prelude.{ℕ, suc, Bool, true, false, not, ◌||◌, List, [], ◌∷◌, ◌==◌, if◌then◌else◌}
use Rattle.rdf_lexical.specs.Characters.{is_line_end}

-- WS
abbrev pub is_white_space : ℕ → Bool
is_white_space c = c == 32 || c == 9 || is_line_end c

-- How many characters there are before what is neither white space nor of a comment; a comment goes from `#` to the
-- line's end or the text's.
abbrev pub blank_length : Bool → List ℕ → ℕ
blank_length in_comment [] = 0
blank_length true (c ∷ cs) = suc (blank_length (not (is_line_end c)) cs)
blank_length false (c ∷ cs) = if c == 35 then suc (blank_length true cs) else
    (if is_white_space c then suc (blank_length false cs) else 0)
