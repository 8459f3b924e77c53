-- The tokens of N-Triples 1.1, section 7, on characters. Which texts are tokens say the productions; these definitions add
-- the faults: no token, a bad escape, or an end of the text within a token.
use Rattle.std.specs.Prelude.{ℕ, suc, ◌+◌, Bool, ◌||◌, List, [], ◌∷◌, take, drop, Result, Ok, Err, encode_utf8_all, ◌==◌, if◌then◌else◌}
use Rattle.rdf_lexical.specs.declared.refusal.RefusalKind.{RefusalKind}
use Rattle.rdf_lexical.specs.declared.refusal.RefusalKind.TheVariants.{NoToken, UnexpectedEnd}
use Rattle.rdf_lexical.specs.declared.classes.Class.TheVariants.{NameUnderscoreColonOrDigit, NameOrColon}
use Rattle.rdf_lexical.specs.declared.quoting.Quotes.TheVariants.{Double}
use Rattle.rdf_lexical.specs.declared.enclosing.Enclosed.TheVariants.{Iri, Text}
use Rattle.rdf_lexical.specs.Refusals.{◌>>=◌}
use Rattle.rdf_lexical.specs.Characters.{is_line_end}
use Rattle.rdf_lexical.specs.Classes.{holds}
use Rattle.rdf_lexical.specs.Names.{name_length}
use Rattle.rdf_lexical.specs.Tags.{tag_length}
use Rattle.rdf_lexical.specs.Enclosed.{enclosed_length}
use Rattle.rdf_lexical.specs.Meanings.{iri_text, string_value, lower_text}
use Rattle.ntriples_text.specs.declared.lexeme.TokenKind.{TokenKind}
use Rattle.ntriples_text.specs.declared.lexeme.TokenKind.TheVariants as kinds
use Rattle.ntriples_text.specs.declared.token.Token.{Token}
use Rattle.ntriples_text.specs.declared.token.Token.TheVariants.{IriRef, Quoted, Label, LanguageTag, Carets, Dot, LineEnd, TextEnd}

-- What was read, and the characters after it; or the kind of the refusal.
abbrev pub Parsed : Type 0 → Type 0
Parsed X = Result (X × List ℕ) RefusalKind

-- the kind of a token and how many characters it has, or why there is none
abbrev pub Lexeme : Type 0
Lexeme = Result (TokenKind × ℕ) RefusalKind

abbrev pub is_blank : ℕ → Bool
is_blank c = c == 32 || c == 9

-- after blanks, and after a comment, which goes up to the line's end
abbrev pub from_line_end : List ℕ → List ℕ
from_line_end [] = []
from_line_end (c ∷ cs) = if is_line_end c then c ∷ cs else from_line_end cs

abbrev pub skipped : List ℕ → List ℕ
skipped [] = []
skipped (c ∷ cs) = if is_blank c then skipped cs else (if c == 35 then from_line_end cs else c ∷ cs)

-- a token of a kind, by how many characters follow its first
abbrev pub of_kind : TokenKind → Result ℕ RefusalKind → Lexeme
of_kind kind (Ok n) = Ok (kind, suc n)
of_kind kind (Err fault) = Err fault

-- BLANK_NODE_LABEL, after `_:` and after `_`
abbrev pub label_after_colon : List ℕ → Lexeme
label_after_colon [] = Err UnexpectedEnd
label_after_colon (c ∷ cs) = if holds NameUnderscoreColonOrDigit c then Ok (kinds.BlankNodeLabel, 2 + name_length NameOrColon (c ∷ cs)) else Err NoToken

abbrev pub label : List ℕ → Lexeme
label [] = Err UnexpectedEnd
label (c ∷ cs) = if c == 58 then label_after_colon cs else Err NoToken

-- LANGTAG, after `@`
abbrev pub language_tag : List ℕ → Lexeme
language_tag [] = Err UnexpectedEnd
language_tag (c ∷ cs) = if tag_length (c ∷ cs) == 0 then Err NoToken else Ok (kinds.LanguageTag, suc (tag_length (c ∷ cs)))

-- `^^`, after its first character
abbrev pub carets : List ℕ → Lexeme
carets [] = Err UnexpectedEnd
carets (c ∷ cs) = if c == 94 then Ok (kinds.Carets, 2) else Err NoToken

-- the tokens of one or two characters
abbrev pub mark : ℕ → List ℕ → Lexeme
mark c cs =
    if c == 94 then carets cs else
    (if c == 46 then Ok (kinds.Dot, 1) else
    (if is_line_end c then Ok (kinds.LineEnd, 1) else Err NoToken))

-- the token that begins with the first of the characters
abbrev pub lexeme : List ℕ → Lexeme
lexeme [] = Err UnexpectedEnd
lexeme (c ∷ cs) =
    if c == 60 then of_kind kinds.IriRef (enclosed_length Iri 0 cs) else
    (if c == 34 then of_kind kinds.StringLiteral (enclosed_length (Text Double) 0 cs) else
    (if c == 95 then label cs else
    (if c == 64 then language_tag cs else mark c cs)))

-- what the characters of a token of this kind stand for
abbrev pub token_of : TokenKind → List ℕ → Token
token_of kinds.IriRef t = IriRef (iri_text t)
token_of kinds.StringLiteral t = Quoted (string_value Double t)
token_of kinds.BlankNodeLabel t = Label (encode_utf8_all (drop 2 t))
token_of kinds.LanguageTag t = LanguageTag (lower_text (drop 1 t))
token_of kinds.Carets t = Carets
token_of kinds.Dot t = Dot
token_of kinds.LineEnd t = LineEnd

-- the token that begins with the first of the characters, and what follows it; or the text's end
abbrev pub token_at : List ℕ → Parsed Token
token_at [] = Ok (TextEnd, [])
token_at (c ∷ cs) = lexeme (c ∷ cs) >>= λ p. Ok (token_of p.0 (take p.1 (c ∷ cs)), drop p.1 (c ∷ cs))

-- the next token
unfoldable pub token : List ℕ → Parsed Token
token cs = token_at (skipped cs)
