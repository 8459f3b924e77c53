-- The productions for terminals that N-Triples and Turtle share: N-Triples 1.1 section 7, Turtle 1.1 section 6.5.
use Rattle.std.specs.Prelude.{◌≡◌, ℕ, ◌<◌, true, ◌||◌, List, [], ◌∷◌, ◌++◌, length, ◌==◌, Some, replicate, ◌⊎◌}
use Rattle.std.specs.List.{AllByRecursion}
use Rattle.rdf_lexical.specs.declared.quoting.Quotes.{Quotes}
use Rattle.rdf_lexical.specs.declared.classes.Class.{Class}
use Rattle.rdf_lexical.specs.declared.classes.Class.TheVariants.{Hexadecimal, Letter, LetterOrDigit}
use Rattle.rdf_lexical.specs.declared.enclosing.Enclosed.{Enclosed}
use Rattle.rdf_lexical.specs.declared.enclosing.Enclosed.TheVariants.{Iri, Text}
use Rattle.rdf_lexical.specs.Characters.{is_iri_char}
use Rattle.rdf_lexical.specs.Escapes.{escaped_char, numbered_char}
use Rattle.rdf_lexical.specs.Classes.{holds, begins_with}
use Rattle.rdf_lexical.specs.Quoting.{quotes_length}
use Rattle.rdf_lexical.specs.Enclosed.{quote_of, mark, closing_length, may_hold}

-- `C*`, `C+` and `C` for a class of characters
abbrev pub AllOf : Class → List ℕ → Type 0
AllOf k t = AllByRecursion (λ c. holds k c ≡ true) t

abbrev pub SomeOf : Class → List ℕ → Type 0
SomeOf k t = (begins_with k t ≡ true) × AllOf k t

abbrev pub OneOf : Class → List ℕ → Type 0
OneOf k t = (c : ℕ) × (t ≡ c ∷ []) × (holds k c ≡ true)

-- texts one after another
abbrev pub joined_texts : List (List ℕ) → List ℕ
joined_texts [] = []
joined_texts (t ∷ ts) = t ++ joined_texts ts

-- `((k | '.')* k)?` for a class k, after the first character of a name
abbrev pub IsNameTail : Class → List ℕ → Type 0
IsNameTail k t = (t ≡ []) ⊎ ((v : List ℕ) × (c : ℕ) × (t ≡ v ++ c ∷ []) × AllByRecursion (λ d. (holds k d || d == 46) ≡ true) v × (holds k c ≡ true))

-- BLANK_NODE_LABEL: `'_:' first ((k | '.')* k)?`. In Turtle first is `PN_CHARS_U | [0-9]` and k is PN_CHARS; N-Triples has
-- `:` in PN_CHARS_U, and so in both.
abbrev pub IsLabel : Class → Class → List ℕ → Type 0
IsLabel first k t = (c : ℕ) × (v : List ℕ) × (t ≡ 95 ∷ 58 ∷ c ∷ v) × (holds first c ≡ true) × IsNameTail k v

-- UCHAR, and the character that it stands for: `'\u' HEX HEX HEX HEX` or `'\U'` and eight HEX
abbrev pub IsUchar : List ℕ → ℕ → Type 0
IsUchar t v = ((ds : List ℕ) × (t ≡ 92 ∷ 117 ∷ ds) × (length ds ≡ 4) × AllOf Hexadecimal ds × (numbered_char ds ≡ Some v))
    ⊎ ((ds : List ℕ) × (t ≡ 92 ∷ 85 ∷ ds) × (length ds ≡ 8) × AllOf Hexadecimal ds × (numbered_char ds ≡ Some v))

-- ECHAR, and the character that it stands for
abbrev pub IsEchar : List ℕ → ℕ → Type 0
IsEchar t v = (c : ℕ) × (t ≡ 92 ∷ c ∷ []) × (escaped_char c ≡ Some v)

-- what an IRIREF or a string holds in one place: a character that may stand there, or an escape; an IRIREF has no ECHAR,
-- and UCHAR only of characters that it may hold
abbrev pub IsEscape : Enclosed → List ℕ → Type 0
IsEscape Iri t = (v : ℕ) × IsUchar t v × (is_iri_char v ≡ true)
IsEscape (Text quotes) t = (v : ℕ) × (IsUchar t v ⊎ IsEchar t v)

abbrev pub IsUnit : Enclosed → List ℕ → Type 0
IsUnit e t = ((c : ℕ) × (t ≡ c ∷ []) × (may_hold e c ≡ true)) ⊎ IsEscape e t

-- in long strings one or two quotes may stand before it: fewer than close the token
abbrev pub IsPiece : Enclosed → List ℕ → Type 0
IsPiece e t = (n : ℕ) × (u : List ℕ) × (t ≡ replicate n (mark e) ++ u) × (n < closing_length e) × IsUnit e u

-- what follows the opening: pieces, and what closes the token
abbrev pub IsEnclosed : Enclosed → List ℕ → Type 0
IsEnclosed e t = (ps : List (List ℕ)) × (t ≡ joined_texts ps ++ replicate (closing_length e) (mark e)) × AllByRecursion (IsPiece e) ps

-- IRIREF: `'<' ([^#x00-#x20<>"{}|^`\] | UCHAR)* '>'`
abbrev pub IsIriRef : List ℕ → Type 0
IsIriRef t = (b : List ℕ) × (t ≡ 60 ∷ b) × IsEnclosed Iri b

-- STRING_LITERAL_QUOTE, STRING_LITERAL_SINGLE_QUOTE, STRING_LITERAL_LONG_QUOTE and STRING_LITERAL_LONG_SINGLE_QUOTE
abbrev pub IsString : Quotes → List ℕ → Type 0
IsString quotes t = (b : List ℕ) × (t ≡ replicate (quotes_length quotes) (quote_of quotes) ++ b) × IsEnclosed (Text quotes) b

-- `'-' [a-zA-Z0-9]+`
abbrev pub IsSubtag : List ℕ → Type 0
IsSubtag t = (s : List ℕ) × (t ≡ 45 ∷ s) × SomeOf LetterOrDigit s

-- LANGTAG: `'@' [a-zA-Z]+ ('-' [a-zA-Z0-9]+)*`
abbrev pub IsLanguageTag : List ℕ → Type 0
IsLanguageTag t = (l : List ℕ) × (ts : List (List ℕ)) × (t ≡ 64 ∷ (l ++ joined_texts ts)) × SomeOf Letter l × AllByRecursion IsSubtag ts

-- the beginning of an escape, after its backslash: nothing, or `u` or `U` and fewer HEX than it has
abbrev pub IsCutEscape : List ℕ → Type 0
IsCutEscape d = (d ≡ []) ⊎ (((h : List ℕ) × (d ≡ 117 ∷ h) × AllOf Hexadecimal h × (length h < 4)) ⊎ ((h : List ℕ) × (d ≡ 85 ∷ h) × AllOf Hexadecimal h × (length h < 8)))

-- what follows the opening of an IRIREF or a string where it ends within an escape
abbrev pub IsCutEnclosed : Enclosed → List ℕ → Type 0
IsCutEnclosed e t = (ps : List (List ℕ)) × (n : ℕ) × (d : List ℕ) × (t ≡ joined_texts ps ++ (replicate n (mark e) ++ 92 ∷ d)) × AllByRecursion (IsPiece e) ps × (n < closing_length e) × IsCutEscape d
