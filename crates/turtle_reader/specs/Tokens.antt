-- The token ahead, and what is done with it.
use Rattle.std.specs.Prelude.{ℕ, ◌+◌, Bool, true, false, not, List, Option, Some, None, Result, Ok, Err, if◌then◌else◌}
use Rattle.turtle_lex.specs.declared.token.Token.{Token}
use Rattle.turtle_lex.specs.declared.token.TokenKind.{TokenKind}
use Rattle.turtle_lex.specs.declared.token.TokenKind.TheVariants.{IriRef, PrefixName, PrefixedName, BlankNodeLabel, LanguageTag, StringLiteral, Dot, Semicolon, Comma, OpenBracket, CloseBracket, CloseParenthesis, Carets, A}
use Rattle.turtle_lex.specs.declared.token.LexFault.{LexFault}
use Rattle.turtle_lex.specs.Places.{line_feeds}
use Rattle.turtle_lex.specs.Tokens.{next_token}
use Rattle.turtle_reader.specs.declared.state.State.{State}
use Rattle.rdf_lexical.specs.declared.refusal.RefusalKind.TheVariants.{UnexpectedToken, UnexpectedEnd}
use Rattle.turtle_reader.specs.Parsers.{Parser, ◌>>=◌, give, refuse, asking}

abbrev pub is_string : TokenKind → Bool
is_string (StringLiteral quotes) = true
is_string _ = false

abbrev pub is_comma : TokenKind → Bool
is_comma Comma = true
is_comma _ = false

abbrev pub is_semicolon : TokenKind → Bool
is_semicolon Semicolon = true
is_semicolon _ = false

abbrev pub is_dot : TokenKind → Bool
is_dot Dot = true
is_dot _ = false

abbrev pub is_close_bracket : TokenKind → Bool
is_close_bracket CloseBracket = true
is_close_bracket _ = false

abbrev pub is_close_parenthesis : TokenKind → Bool
is_close_parenthesis CloseParenthesis = true
is_close_parenthesis _ = false

abbrev pub is_prefix_name : TokenKind → Bool
is_prefix_name PrefixName = true
is_prefix_name _ = false

abbrev pub is_iri_ref : TokenKind → Bool
is_iri_ref IriRef = true
is_iri_ref _ = false

abbrev pub is_language_tag : TokenKind → Bool
is_language_tag LanguageTag = true
is_language_tag _ = false

abbrev pub is_carets : TokenKind → Bool
is_carets Carets = true
is_carets _ = false

-- a verb, or what a blank node begins with, which is refused as a predicate
abbrev pub may_begin_verb : TokenKind → Bool
may_begin_verb A = true
may_begin_verb IriRef = true
may_begin_verb PrefixName = true
may_begin_verb PrefixedName = true
may_begin_verb BlankNodeLabel = true
may_begin_verb OpenBracket = true
may_begin_verb _ = false

-- the token ahead, where there must be one, and the reading goes past it
abbrev pub next_of : List ℕ → Result (Option Token) LexFault → Parser Token
next_of text (Ok (Some t)) s = Ok (t, record s { ahead = next_token text t.end.at (is_string t.kind) })
next_of text (Ok None) s = Err (1 + line_feeds text, UnexpectedEnd)
next_of text (Err fault) s = Err (fault.line, fault.kind)

unfoldable pub next : List ℕ → Parser Token
next text s = next_of text s.ahead s

abbrev pub is_of : (TokenKind → Bool) → Result (Option Token) LexFault → Bool
is_of test (Ok (Some t)) = test t.kind
is_of test (Ok None) = false
is_of test (Err fault) = false

-- whether a token of this kind is ahead
unfoldable pub is_next : (TokenKind → Bool) → State → Bool
is_next test s = is_of test s.ahead

unfoldable pub is_other : (TokenKind → Bool) → State → Bool
is_other test s = not (is_of test s.ahead)

abbrev pub is_some_left : Result (Option Token) LexFault → Bool
is_some_left (Ok None) = false
is_some_left (Ok (Some t)) = true
is_some_left (Err fault) = true

-- whether there is more than the text's end
unfoldable pub is_unfinished : State → Bool
is_unfinished s = is_some_left s.ahead

-- a token of this kind
unfoldable pub expected : List ℕ → (TokenKind → Bool) → Parser Token
expected text test = next text >>= λ t. if test t.kind then give t else refuse t.start.line UnexpectedToken

-- a parser where a token of this kind is ahead, else another
unfoldable pub where_next : {A : Type 0} → (TokenKind → Bool) → Parser A → Parser A → Parser A
where_next test then_read else_read = asking (is_next test) (λ b. if b then then_read else else_read)
