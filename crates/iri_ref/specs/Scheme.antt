-- Schemes: RFC 3986 section 3.1.
use Rattle.std.specs.Prelude.{ℕ, Bool, false, ◌&&◌, ◌||◌, List, [], ◌∷◌, nat_le, ◌==◌}

abbrev pub is_letter : ℕ → Bool
is_letter c = (nat_le 65 c && nat_le c 90) || (nat_le 97 c && nat_le c 122)

-- a letter, a digit, `+`, `-` or `.`
abbrev pub is_scheme_char : ℕ → Bool
is_scheme_char c = is_letter c || (nat_le 48 c && nat_le c 57) || c == 43 || c == 45 || c == 46

-- characters of a scheme up to a colon
abbrev pub reaches_colon : List ℕ → Bool
reaches_colon [] = false
reaches_colon (c ∷ cs) = c == 58 || (is_scheme_char c && reaches_colon cs)

-- scheme = ALPHA *( ALPHA / DIGIT / "+" / "-" / "." ), followed by ":"
abbrev pub has_scheme : List ℕ → Bool
has_scheme [] = false
has_scheme (c ∷ cs) = is_letter c && reaches_colon cs
