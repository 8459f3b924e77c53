-- Characters of names and IRIs, as code points (Turtle 1.1 section 6.5, N-Triples 1.1 section 7).
use Rattle.std.specs.Prelude.{ℕ, Bool, ◌&&◌, ◌||◌, not, nat_le, nat_lt, ◌==◌}

abbrev pub is_within : ℕ → ℕ → ℕ → Bool
is_within low high c = nat_le low c && nat_le c high

-- LF and CR, which end a comment, and in N-Triples a line
abbrev pub is_line_end : ℕ → Bool
is_line_end c = c == 10 || c == 13

abbrev pub is_ascii_letter : ℕ → Bool
is_ascii_letter c = is_within 65 90 c || is_within 97 122 c

-- PN_CHARS_BASE: ASCII letters, and the other ranges of letters
abbrev pub is_pn_chars_base : ℕ → Bool
is_pn_chars_base c = is_ascii_letter c || is_within 0xC0 0xD6 c || is_within 0xD8 0xF6 c || is_within 0xF8 0x2FF c || is_within 0x370 0x37D c
    || is_within 0x37F 0x1FFF c || is_within 0x200C 0x200D c || is_within 0x2070 0x218F c || is_within 0x2C00 0x2FEF c
    || is_within 0x3001 0xD7FF c || is_within 0xF900 0xFDCF c || is_within 0xFDF0 0xFFFD c || is_within 0x10000 0xEFFFF c

-- PN_CHARS_U: PN_CHARS_BASE or `_`
abbrev pub is_pn_chars_u : ℕ → Bool
is_pn_chars_u c = is_pn_chars_base c || c == 95

-- PN_CHARS: PN_CHARS_U, `-`, a digit, the middle dot, combining marks, the undertie and the character tie
abbrev pub is_pn_chars : ℕ → Bool
is_pn_chars c = is_pn_chars_u c || c == 45 || is_within 48 57 c || c == 0xB7 || is_within 0x300 0x36F c || is_within 0x203F 0x2040 c

-- IRIREF, between `<` and `>`: no control character or space, and none of `<`, `>`, `"`, `{`, `}`, `|`, `^`, the
-- backquote and the backslash
abbrev pub is_iri_char : ℕ → Bool
is_iri_char c = nat_lt 32 c && not (c == 60 || c == 62 || c == 34 || c == 123 || c == 125 || c == 124 || c == 94 || c == 96 || c == 92)
