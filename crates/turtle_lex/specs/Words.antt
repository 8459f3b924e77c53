-- The words of the grammar, and what `@` begins (Turtle 1.1 sections 6.2 and 6.5).
use Rattle.std.specs.Prelude.{ℕ, suc, Bool, true, false, ◌&&◌, ◌||◌, List, [], ◌∷◌, length, take, codes, Option, Some, None, Result, Ok, Err, ◌==◌, nat_eq, if◌then◌else◌, bytes_eq}
use Rattle.std.specs.List.{list_all, starts_with}
use Rattle.std.specs.Char.{to_ascii_lowercase}
use Rattle.turtle_lex.specs.declared.token.TokenKind.{TokenKind}
use Rattle.turtle_lex.specs.declared.token.TokenKind.TheVariants.{A, True, False, Prefix, Base, AtPrefix, AtBase, LanguageTag}
use Rattle.rdf_lexical.specs.declared.refusal.RefusalKind.{RefusalKind}
use Rattle.rdf_lexical.specs.declared.refusal.RefusalKind.TheVariants.{NoToken, UnexpectedEnd}
use Rattle.rdf_lexical.specs.declared.classes.Class.TheVariants.{Name, NameOrDot}
use Rattle.rdf_lexical.specs.Characters.{is_within}
use Rattle.rdf_lexical.specs.Tags.{tag_length}
use Rattle.rdf_lexical.specs.Classes.{run_length}

-- the kind of a token and how many characters it has, or why there is none
abbrev pub Lexeme : Type 0
Lexeme = Result (TokenKind × ℕ) RefusalKind

-- small ASCII letters alone
abbrev pub has_small_letters : List ℕ → Bool
has_small_letters cs = list_all (is_within 97 122) cs

-- the same letters, the word's in any case
abbrev pub is_in_any_case : List ℕ → List ℕ → Bool
is_in_any_case [] [] = true
is_in_any_case (c ∷ cs) (d ∷ ds) = to_ascii_lowercase c == d && is_in_any_case cs ds
is_in_any_case [] (d ∷ ds) = false
is_in_any_case (c ∷ cs) [] = false

-- a word without a colon: `a`, `true`, `false`, and in any case `prefix` and `base`
abbrev pub word_kind : List ℕ → Option TokenKind
word_kind word = if bytes_eq word (codes "a") then Some A else
    (if bytes_eq word (codes "true") then Some True else
    (if bytes_eq word (codes "false") then Some False else
    (if is_in_any_case word (codes "prefix") then Some Prefix else
    (if is_in_any_case word (codes "base") then Some Base else None))))

-- after a string `@` begins a LANGTAG
abbrev pub language_tag : List ℕ → Lexeme
language_tag [] = Err UnexpectedEnd
language_tag (c ∷ cs) = if tag_length (c ∷ cs) == 0 then Err NoToken else Ok (LanguageTag, suc (tag_length (c ∷ cs)))

-- elsewhere the word as far as a LANGTAG goes must be `@prefix` or `@base`
abbrev pub directive_kind : List ℕ → Option TokenKind
directive_kind word = if bytes_eq word (codes "prefix") then Some AtPrefix else
    (if bytes_eq word (codes "base") then Some AtBase else None)

-- nothing but the beginning of such a word is left of the text
abbrev pub begins_directive : List ℕ → Bool
begins_directive cs = starts_with nat_eq (codes "prefix") cs || starts_with nat_eq (codes "base") cs

abbrev pub lexeme_of : Option TokenKind → ℕ → Bool → Lexeme
lexeme_of (Some kind) length is_cut = Ok (kind, length)
lexeme_of None length is_cut = if is_cut then Err UnexpectedEnd else Err NoToken

abbrev pub directive : List ℕ → Lexeme
directive cs = lexeme_of (directive_kind (take (tag_length cs) cs)) (suc (tag_length cs)) (begins_directive cs)

-- the token that begins with `@`, by the characters after that
abbrev pub at_word : Bool → List ℕ → Lexeme
at_word after_string cs = if after_string then language_tag cs else directive cs

-- A word that is no prefixed name is the longest run of PN_CHARS. Where only PN_CHARS and dots are left of the text it
-- may be the beginning of a prefix.
abbrev pub word : List ℕ → Lexeme
word cs = lexeme_of (word_kind (take (run_length Name cs) cs)) (run_length Name cs) (run_length NameOrDot cs == length cs)
