-- Classes of characters, and how many of one a text begins with (Turtle 1.1 section 6.5). In N-Triples 1.1 section 7
-- PN_CHARS_U and PN_CHARS have `:` too.
use Rattle.std.specs.Prelude.{ℕ, suc, Bool, false, ◌||◌, List, [], ◌∷◌, ◌==◌, if◌then◌else◌, is_some}
use Rattle.rdf_lexical.specs.Characters.{is_within, is_ascii_letter, is_pn_chars, is_pn_chars_base, is_pn_chars_u}
use Rattle.rdf_lexical.specs.Escapes.{hex_value}
use Rattle.rdf_lexical.specs.declared.classes.Class.{Class}
use Rattle.rdf_lexical.specs.declared.classes.Class.TheVariants.{Sign, Digit, Hexadecimal, Letter, LetterOrDigit, NameStart, NameUnderscoreOrDigit, NameUnderscoreColonOrDigit, Name, NameOrDot, LocalStart, NameOrColon, LocalEscape}

abbrev pub is_digit : ℕ → Bool
is_digit c = is_within 48 57 c

-- PN_LOCAL_ESC, after the backslash: one of `_ ~ . - ! $ & ' ( ) * + , ; = / ? # @ %`
abbrev pub is_local_escape : ℕ → Bool
is_local_escape c = c == 95 || c == 126 || is_within 45 47 c || c == 33 || is_within 35 44 c || c == 59 || c == 61 || c == 63 || c == 64

-- what PN_LOCAL may begin with: PN_CHARS_U, `[0-9]`, `:` or the first character of PLX
abbrev pub begins_local : ℕ → Bool
begins_local c = is_pn_chars_u c || is_digit c || c == 58 || c == 37 || c == 92

-- `[+-]`, `[0-9]`, HEX, `[a-zA-Z]`, `[a-zA-Z0-9]`, PN_CHARS_BASE, `PN_CHARS_U | [0-9]`, `PN_CHARS_U | ':' | [0-9]`, PN_CHARS,
-- `PN_CHARS | '.'`, the beginnings of PN_LOCAL, `PN_CHARS | ':'`, PN_LOCAL_ESC
abbrev pub holds : Class → ℕ → Bool
holds Sign c = c == 43 || c == 45
holds Digit c = is_digit c
holds Hexadecimal c = is_some (hex_value c)
holds Letter c = is_ascii_letter c
holds LetterOrDigit c = is_ascii_letter c || is_digit c
holds NameStart c = is_pn_chars_base c
holds NameUnderscoreOrDigit c = is_pn_chars_u c || is_digit c
holds NameUnderscoreColonOrDigit c = is_pn_chars_u c || c == 58 || is_digit c
holds Name c = is_pn_chars c
holds NameOrDot c = is_pn_chars c || c == 46
holds LocalStart c = begins_local c
holds NameOrColon c = is_pn_chars c || c == 58
holds LocalEscape c = is_local_escape c

abbrev pub begins_with : Class → List ℕ → Bool
begins_with k [] = false
begins_with k (c ∷ cs) = holds k c

-- how many characters of the class stand at the beginning
abbrev pub run_length : Class → List ℕ → ℕ
run_length k [] = 0
run_length k (c ∷ cs) = if holds k c then suc (run_length k cs) else 0
