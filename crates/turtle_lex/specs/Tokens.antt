-- The token or the fault at a place of a text, by its first characters (Turtle 1.1 sections 6.2 and 6.5). Which texts are
-- tokens say the productions; these definitions add the faults: no token, a bad escape, or an end of the text within a
-- token, which is where all the rest of the text is the beginning of one and nothing of it is a token.
use Rattle.std.specs.Prelude.{ℕ, ◌+◌, Bool, true, false, ◌||◌, List, [], ◌∷◌, length, drop, Option, Some, None, Result, Ok, Err, ◌==◌, if◌then◌else◌}
use Rattle.rdf_lexical.specs.declared.refusal.RefusalKind.{RefusalKind}
use Rattle.rdf_lexical.specs.declared.refusal.RefusalKind.TheVariants.{NoToken, UnexpectedEnd}
use Rattle.turtle_lex.specs.declared.token.LexFault.{LexFault}
use Rattle.turtle_lex.specs.declared.token.Token.{Token}
use Rattle.turtle_lex.specs.declared.token.TokenKind.{TokenKind}
use Rattle.turtle_lex.specs.declared.token.TokenKind.TheVariants.{PrefixName, PrefixedName, BlankNodeLabel, Carets, Dot, Semicolon, Comma, OpenBracket, CloseBracket, OpenParenthesis, CloseParenthesis}
use Rattle.rdf_lexical.specs.declared.classes.Class.TheVariants.{Sign, Digit, NameStart, NameUnderscoreOrDigit, Name}
use Rattle.rdf_lexical.specs.Classes.{holds}
use Rattle.turtle_lex.specs.Blanks.{blank_length}
use Rattle.rdf_lexical.specs.Names.{name_length}
use Rattle.turtle_lex.specs.Names.{prefix_length, local_length}
use Rattle.turtle_lex.specs.Numbers.{number}
use Rattle.turtle_lex.specs.Words.{Lexeme, at_word, word}
use Rattle.turtle_lex.specs.Enclosed.{iri_ref, string_literal}
use Rattle.turtle_lex.specs.Places.{place_at}

-- BLANK_NODE_LABEL, after `_:` and after `_`
abbrev pub label_after_colon : List ℕ → Lexeme
label_after_colon [] = Err UnexpectedEnd
label_after_colon (c ∷ cs) = if holds NameUnderscoreOrDigit c then Ok (BlankNodeLabel, 2 + name_length Name (c ∷ cs)) else Err NoToken

abbrev pub label : List ℕ → Lexeme
label [] = Err UnexpectedEnd
label (c ∷ cs) = if c == 58 then label_after_colon cs else Err NoToken

-- `^^`, after its first character
abbrev pub carets : List ℕ → Lexeme
carets [] = Err UnexpectedEnd
carets (c ∷ cs) = if c == 94 then Ok (Carets, 2) else Err NoToken

-- PNAME_NS or PNAME_LN by how many characters its prefix has, after the colon
abbrev pub prefixed : ℕ → List ℕ → TokenKind × ℕ
prefixed prefix cs = (if local_length cs == 0 then PrefixName else PrefixedName, prefix + 1 + local_length cs)

abbrev pub name_at : List ℕ → ℕ → List ℕ → Lexeme
name_at cs prefix [] = word cs
name_at cs prefix (d ∷ ds) = if d == 58 then Ok (prefixed prefix ds) else word cs

-- a prefixed name, or a word without a colon
abbrev pub name_or_word : List ℕ → Lexeme
name_or_word cs = name_at cs (prefix_length cs) (drop (prefix_length cs) cs)

-- the dot; a sign alone, or with the dot of a number, may be cut off by the text's end
abbrev pub is_cut_number : List ℕ → Bool
is_cut_number [] = true
is_cut_number (c ∷ []) = c == 46
is_cut_number (c ∷ d ∷ cs) = false

abbrev pub no_number : List ℕ → Lexeme
no_number [] = Err NoToken
no_number (c ∷ cs) = if c == 46 then Ok (Dot, 1) else (if is_cut_number cs then Err UnexpectedEnd else Err NoToken)

abbrev pub number_found : Option (TokenKind × ℕ) → List ℕ → Lexeme
number_found (Some token) cs = Ok token
number_found None cs = no_number cs

abbrev pub number_or_dot : List ℕ → Lexeme
number_or_dot cs = number_found (number cs) cs

abbrev pub punctuation : ℕ → Option TokenKind
punctuation c = if c == 59 then Some Semicolon else
    (if c == 44 then Some Comma else
    (if c == 91 then Some OpenBracket else
    (if c == 93 then Some CloseBracket else
    (if c == 40 then Some OpenParenthesis else
    (if c == 41 then Some CloseParenthesis else None)))))

abbrev pub may_begin_number : ℕ → Bool
may_begin_number c = c == 46 || holds Sign c || holds Digit c

abbrev pub may_begin_name : ℕ → Bool
may_begin_name c = c == 58 || holds NameStart c

abbrev pub plain_found : Option TokenKind → ℕ → List ℕ → Lexeme
plain_found (Some kind) c cs = Ok (kind, 1)
plain_found None c cs = if may_begin_number c then number_or_dot cs else (if may_begin_name c then name_or_word cs else Err NoToken)

-- a token of one character, a number, a name or a word, by its first character
abbrev pub plain_token : ℕ → List ℕ → Lexeme
plain_token c cs = plain_found (punctuation c) c cs

-- the token that begins with the first character
abbrev pub token_at : Bool → List ℕ → Lexeme
token_at after_string [] = Err UnexpectedEnd
token_at after_string (c ∷ cs) =
    if c == 60 then iri_ref cs else
    (if c == 34 || c == 39 then string_literal c cs else
    (if c == 64 then at_word after_string cs else
    (if c == 95 then label cs else
    (if c == 94 then carets cs else plain_token c (c ∷ cs)))))

-- the line of a fault: that of the token's start, or of the text's end where that came too early
abbrev pub fault_line : List ℕ → ℕ → RefusalKind → ℕ
fault_line text start UnexpectedEnd = (place_at text (length text)).line
fault_line text start _ = (place_at text start).line

abbrev pub placed : List ℕ → ℕ → Lexeme → Result Token LexFault
placed text start (Ok token) = Ok (record { kind = token.0; start = place_at text start; end = place_at text (start + token.1) })
placed text start (Err kind) = Err (record { line = fault_line text start kind; kind = kind })

abbrev pub found : Result Token LexFault → Result (Option Token) LexFault
found (Ok token) = Ok (Some token)
found (Err fault) = Err fault

-- the token behind white space and comments at a place, if anything else is left there
abbrev pub token_behind : List ℕ → ℕ → Bool → List ℕ → Result (Option Token) LexFault
token_behind text start after_string [] = Ok None
token_behind text start after_string (c ∷ cs) = found (placed text start (token_at after_string (c ∷ cs)))

-- what is left behind white space and comments
abbrev pub behind_blanks : List ℕ → ℕ → List ℕ
behind_blanks text at = drop (blank_length false (drop at text)) (drop at text)

abbrev pub next_token : List ℕ → ℕ → Bool → Result (Option Token) LexFault
next_token text at after_string = token_behind text (at + blank_length false (drop at text)) after_string (behind_blanks text at)
