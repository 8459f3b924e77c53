-- IRIREF and the four productions of strings, by what follows their first character (Turtle 1.1 section 6.5).
use Rattle.std.specs.Prelude.{ℕ, suc, ◌+◌, List, drop, Result, Ok, Err, ◌==◌, if◌then◌else◌}
use Rattle.rdf_lexical.specs.declared.quoting.Quotes.{Quotes}
use Rattle.rdf_lexical.specs.declared.quoting.Quotes.TheVariants.{Double, Single, LongDouble, LongSingle}
use Rattle.rdf_lexical.specs.declared.refusal.RefusalKind.{RefusalKind}
use Rattle.rdf_lexical.specs.declared.enclosing.Enclosed.TheVariants.{Iri, Text}
use Rattle.rdf_lexical.specs.Enclosed.{leading_marks, enclosed_length}
use Rattle.turtle_lex.specs.declared.token.TokenKind.TheVariants.{IriRef, StringLiteral}
use Rattle.turtle_lex.specs.Words.{Lexeme}

-- IRIREF, after `<`
abbrev pub iri_lexeme : Result ℕ RefusalKind → Lexeme
iri_lexeme (Ok n) = Ok (IriRef, suc n)
iri_lexeme (Err fault) = Err fault

abbrev pub iri_ref : List ℕ → Lexeme
iri_ref cs = iri_lexeme (enclosed_length Iri 0 cs)

-- three quotes begin the long form
abbrev pub quotes_at : ℕ → List ℕ → Quotes
quotes_at quote cs = if leading_marks quote 2 cs == 2 then (if quote == 34 then LongDouble else LongSingle) else
    (if quote == 34 then Double else Single)

-- how many quotes open a string after the first
abbrev pub more_quotes : Quotes → ℕ
more_quotes Double = 0
more_quotes Single = 0
more_quotes LongDouble = 2
more_quotes LongSingle = 2

abbrev pub string_lexeme : Quotes → Result ℕ RefusalKind → Lexeme
string_lexeme quotes (Ok n) = Ok (StringLiteral quotes, suc (more_quotes quotes + n))
string_lexeme quotes (Err fault) = Err fault

-- a string, after its first quote
abbrev pub string_literal : ℕ → List ℕ → Lexeme
string_literal quote cs = let quotes = quotes_at quote cs in
    string_lexeme quotes (enclosed_length (Text quotes) 0 (drop (more_quotes quotes) cs))
