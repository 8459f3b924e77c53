-- The texts of each kind of token, by the productions of N-Triples 1.1 section 7.
use Rattle.std.specs.Prelude.{◌≡◌, ℕ, ◌≤◌, true, List, [], ◌∷◌, ◌++◌, length, take, codes, ◌⊎◌}
use Rattle.rdf_lexical.specs.declared.classes.Class.TheVariants.{NameUnderscoreColonOrDigit, NameOrColon}
use Rattle.rdf_lexical.specs.declared.quoting.Quotes.TheVariants.{Double}
use Rattle.rdf_lexical.specs.Characters.{is_line_end}
use Rattle.rdf_lexical.specs.declared.enclosing.Enclosed.TheVariants.{Iri, Text}
use Rattle.rdf_lexical.specs.Productions.{IsIriRef, IsString, IsLabel, IsLanguageTag, IsCutEnclosed}
use Rattle.ntriples_text.specs.declared.lexeme.TokenKind.{TokenKind}
use Rattle.ntriples_text.specs.declared.lexeme.TokenKind.TheVariants.{IriRef, StringLiteral, BlankNodeLabel, LanguageTag, Carets, Dot, LineEnd}

-- EOL is one or more of CR and LF; here each is a token of its own, since a line may be blank.
abbrev pub IsToken : TokenKind → List ℕ → Type 0
IsToken IriRef t = IsIriRef t
IsToken StringLiteral t = IsString Double t
IsToken BlankNodeLabel t = IsLabel NameUnderscoreColonOrDigit NameOrColon t
IsToken LanguageTag t = IsLanguageTag t
IsToken Carets t = t ≡ codes "^^"
IsToken Dot t = t ≡ codes "."
IsToken LineEnd t = (c : ℕ) × (t ≡ c ∷ []) × (is_line_end c ≡ true)

-- The kind of token with so many characters at the beginning of a text: the longest that stands there.
pub record IsTokenAt (text : List ℕ) (kind : TokenKind) (n : ℕ) : Type 0 where
  pub within : n ≤ length text
  pub is : IsToken kind (take n text)
  pub longest : (other : TokenKind) (t u : List ℕ) → text ≡ t ++ u → IsToken other t → length t ≤ n

-- no token stands at the beginning of a text
abbrev pub HasNoToken : List ℕ → Type 0
HasNoToken text = (kind : TokenKind) (t u : List ℕ) → text ≡ t ++ u → IsToken kind t → ⊥

-- all of a text is the beginning of a token: with more at its end it is one
abbrev pub BeginsToken : List ℕ → Type 0
BeginsToken text = (kind : TokenKind) × (more : List ℕ) × IsToken kind (text ++ more)

-- a text is the beginning of an IRIREF or a string, and ends within an escape there
abbrev pub EndsInEscape : List ℕ → Type 0
EndsInEscape text = ((b : List ℕ) × (text ≡ 60 ∷ b) × IsCutEnclosed Iri b) ⊎ ((b : List ℕ) × (text ≡ 34 ∷ b) × IsCutEnclosed (Text Double) b)
