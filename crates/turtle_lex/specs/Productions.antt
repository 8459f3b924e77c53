-- The texts of each kind of token, by the productions of Turtle 1.1 section 6.5; those that N-Triples shares stand in
-- rdf_lexical.
use Rattle.std.specs.Prelude.{◌≡◌, ℕ, ◌-◌, ◌≤◌, Bool, true, false, ◌||◌, List, [], ◌∷◌, ◌++◌, length, take, drop, map, ◌==◌, codes, replicate, ◌⊎◌}
use Rattle.std.specs.List.{AllByRecursion}
use Rattle.std.specs.Char.{to_ascii_lowercase}
use Rattle.turtle_lex.specs.declared.token.Token.{Token}
use Rattle.turtle_lex.specs.declared.token.TokenKind.{TokenKind}
use Rattle.turtle_lex.specs.declared.token.TokenKind.TheVariants.{IriRef, PrefixName, PrefixedName, BlankNodeLabel, LanguageTag, Integer, Decimal, Double, StringLiteral, Dot, Semicolon, Comma, OpenBracket, CloseBracket, OpenParenthesis, CloseParenthesis, Carets, A, True, False, Prefix, Base, AtPrefix, AtBase}
use Rattle.rdf_lexical.specs.declared.classes.Class.TheVariants.{Sign, Digit, Hexadecimal, NameStart, NameUnderscoreOrDigit, Name, LocalStart, NameOrColon, LocalEscape}
use Rattle.rdf_lexical.specs.Classes.{holds, begins_with}
use Rattle.rdf_lexical.specs.declared.enclosing.Enclosed.TheVariants.{Iri, Text}
use Rattle.rdf_lexical.specs.declared.quoting.Quotes.{Quotes}
use Rattle.rdf_lexical.specs.Quoting.{quotes_length}
use Rattle.rdf_lexical.specs.Productions.{AllOf, SomeOf, OneOf, joined_texts, IsNameTail, IsLabel, IsIriRef, IsString, IsLanguageTag, IsCutEnclosed}
use Rattle.rdf_lexical.specs.Enclosed.{quote_of}

-- `[+-]?`
abbrev pub IsSign : List ℕ → Type 0
IsSign t = (t ≡ []) ⊎ OneOf Sign t

-- INTEGER: `[+-]? [0-9]+`
abbrev pub IsInteger : List ℕ → Type 0
IsInteger t = (s d : List ℕ) × (t ≡ s ++ d) × IsSign s × SomeOf Digit d

-- DECIMAL: `[+-]? [0-9]* '.' [0-9]+`
abbrev pub IsDecimal : List ℕ → Type 0
IsDecimal t = (s d f : List ℕ) × (t ≡ s ++ (d ++ 46 ∷ f)) × IsSign s × AllOf Digit d × SomeOf Digit f

-- EXPONENT: `[eE] [+-]? [0-9]+`
abbrev pub IsExponent : List ℕ → Type 0
IsExponent t = (c : ℕ) × (s d : List ℕ) × (t ≡ c ∷ (s ++ d)) × ((c == 101 || c == 69) ≡ true) × IsSign s × SomeOf Digit d

-- `[0-9]+`, `[0-9]+ '.' [0-9]*` or `'.' [0-9]+`
abbrev pub IsMantissa : List ℕ → Type 0
IsMantissa t = SomeOf Digit t ⊎ ((d f : List ℕ) × (t ≡ d ++ 46 ∷ f) × AllOf Digit d × AllOf Digit f × (SomeOf Digit d ⊎ SomeOf Digit f))

-- DOUBLE: `[+-]? ([0-9]+ '.' [0-9]* EXPONENT | '.' [0-9]+ EXPONENT | [0-9]+ EXPONENT)`
abbrev pub IsDouble : List ℕ → Type 0
IsDouble t = (s m e : List ℕ) × (t ≡ s ++ (m ++ e)) × IsSign s × IsMantissa m × IsExponent e

-- PN_PREFIX: `PN_CHARS_BASE ((PN_CHARS | '.')* PN_CHARS)?`
abbrev pub IsPrefix : List ℕ → Type 0
IsPrefix t = (c : ℕ) × (v : List ℕ) × (t ≡ c ∷ v) × (holds NameStart c ≡ true) × IsNameTail Name v

-- PNAME_NS: `PN_PREFIX? ':'`
abbrev pub IsPrefixName : List ℕ → Type 0
IsPrefixName t = (p : List ℕ) × (t ≡ p ++ 58 ∷ []) × ((p ≡ []) ⊎ IsPrefix p)

-- PLX: `'%' HEX HEX`, or a backslash and one of PN_LOCAL_ESC
abbrev pub IsPlx : List ℕ → Type 0
IsPlx t = ((a b : ℕ) × (t ≡ 37 ∷ a ∷ b ∷ []) × (holds Hexadecimal a ≡ true) × (holds Hexadecimal b ≡ true)) ⊎ ((c : ℕ) × (t ≡ 92 ∷ c ∷ []) × (holds LocalEscape c ≡ true))

-- `PN_CHARS | ':' | PLX`
abbrev pub IsLocalPiece : List ℕ → Type 0
IsLocalPiece t = OneOf NameOrColon t ⊎ IsPlx t

-- `PN_CHARS | '.' | ':' | PLX`
abbrev pub IsLocalPieceOrDot : List ℕ → Type 0
IsLocalPieceOrDot t = IsLocalPiece t ⊎ (t ≡ 46 ∷ [])

-- PN_LOCAL: `(PN_CHARS_U | ':' | [0-9] | PLX) ((PN_CHARS | '.' | ':' | PLX)* (PN_CHARS | ':' | PLX))?`, which is one
-- such piece or more, the last no dot, and the first one of those with which a local name may begin
abbrev pub IsLocal : List ℕ → Type 0
IsLocal t = (ps : List (List ℕ)) × (p : List ℕ) × (t ≡ joined_texts ps ++ p) × AllByRecursion IsLocalPieceOrDot ps × IsLocalPiece p × (begins_with LocalStart t ≡ true)

-- PNAME_LN: `PNAME_NS PN_LOCAL`
abbrev pub IsPrefixedName : List ℕ → Type 0
IsPrefixedName t = (n l : List ℕ) × (t ≡ n ++ l) × IsPrefixName n × IsLocal l

-- The texts of each kind. A LANGTAG is a token after a string alone, and `@prefix` and `@base` elsewhere.
abbrev pub IsToken : Bool → TokenKind → List ℕ → Type 0
IsToken after_string IriRef t = IsIriRef t
IsToken after_string PrefixName t = IsPrefixName t
IsToken after_string PrefixedName t = IsPrefixedName t
IsToken after_string BlankNodeLabel t = IsLabel NameUnderscoreOrDigit Name t
IsToken after_string LanguageTag t = (after_string ≡ true) × IsLanguageTag t
IsToken after_string Integer t = IsInteger t
IsToken after_string Decimal t = IsDecimal t
IsToken after_string Double t = IsDouble t
IsToken after_string (StringLiteral quotes) t = IsString quotes t
IsToken after_string Dot t = t ≡ codes "."
IsToken after_string Semicolon t = t ≡ codes ";"
IsToken after_string Comma t = t ≡ codes ","
IsToken after_string OpenBracket t = t ≡ codes "["
IsToken after_string CloseBracket t = t ≡ codes "]"
IsToken after_string OpenParenthesis t = t ≡ codes "("
IsToken after_string CloseParenthesis t = t ≡ codes ")"
IsToken after_string Carets t = t ≡ codes "^^"
IsToken after_string A t = t ≡ codes "a"
IsToken after_string True t = t ≡ codes "true"
IsToken after_string False t = t ≡ codes "false"
IsToken after_string Prefix t = map to_ascii_lowercase t ≡ codes "prefix"
IsToken after_string Base t = map to_ascii_lowercase t ≡ codes "base"
IsToken after_string AtPrefix t = (after_string ≡ false) × (t ≡ codes "@prefix")
IsToken after_string AtBase t = (after_string ≡ false) × (t ≡ codes "@base")

-- A word goes as far as PN_CHARS do, and `@` as far as a LANGTAG does; three quotes begin the long form, so that two with
-- a third behind them are no empty string.
abbrev pub IsWhole : TokenKind → List ℕ → List ℕ → Type 0
IsWhole A t u = begins_with Name u ≡ false
IsWhole True t u = begins_with Name u ≡ false
IsWhole False t u = begins_with Name u ≡ false
IsWhole Prefix t u = begins_with Name u ≡ false
IsWhole Base t u = begins_with Name u ≡ false
IsWhole AtPrefix t u = (s r : List ℕ) → u ≡ s ++ r → IsLanguageTag (t ++ s) → s ≡ []
IsWhole AtBase t u = (s r : List ℕ) → u ≡ s ++ r → IsLanguageTag (t ++ s) → s ≡ []
IsWhole (StringLiteral quotes) t u = (r : List ℕ) → t ≡ quote_of quotes ∷ quote_of quotes ∷ [] → u ≡ quote_of quotes ∷ r → ⊥
IsWhole _ t u = Unit {0}

-- The kind of token with so many characters at the beginning of a text: the longest that stands there.
pub record IsTokenAt (after_string : Bool) (text : List ℕ) (kind : TokenKind) (n : ℕ) : Type 0 where
  pub within : n ≤ length text
  pub is : IsToken after_string kind (take n text)
  pub whole : IsWhole kind (take n text) (drop n text)
  pub longest : (other : TokenKind) (t u : List ℕ) → text ≡ t ++ u → IsToken after_string other t → IsWhole other t u → length t ≤ n

-- a token of a text is the longest at its start
abbrev pub IsNextToken : Bool → List ℕ → Token → Type 0
IsNextToken after_string text token = IsTokenAt after_string (drop token.start.at text) token.kind (token.end.at - token.start.at)

-- no token stands at the beginning of a text
abbrev pub HasNoToken : Bool → List ℕ → Type 0
HasNoToken after_string text = (kind : TokenKind) (t u : List ℕ) → text ≡ t ++ u → IsToken after_string kind t → IsWhole kind t u → ⊥

-- all of a text is the beginning of a token: with more at its end it is one
abbrev pub BeginsToken : Bool → List ℕ → Type 0
BeginsToken after_string text = (kind : TokenKind) × (more : List ℕ) × IsToken after_string kind (text ++ more)

-- a text is the beginning of an IRIREF or a string, and ends within an escape there
abbrev pub EndsInEscape : List ℕ → Type 0
EndsInEscape text = ((b : List ℕ) × (text ≡ 60 ∷ b) × IsCutEnclosed Iri b)
    ⊎ ((quotes : Quotes) × (b : List ℕ) × (text ≡ replicate (quotes_length quotes) (quote_of quotes) ++ b) × IsCutEnclosed (Text quotes) b)
