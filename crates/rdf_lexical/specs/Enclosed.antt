-- IRIREF and the four productions of strings, after what opens them (Turtle 1.1 section 6.5).
use Rattle.std.specs.Prelude.{ℕ, zero, suc, ◌+◌, ◌-◌, ◌<◌, ◌≤◌, Bool, true, ◌&&◌, ◌||◌, not, List, [], ◌∷◌, drop, Result, Ok, Err, ◌==◌, nat_lt, if◌then◌else◌}
use Rattle.rdf_lexical.specs.Characters.{is_iri_char}
use Rattle.rdf_lexical.specs.declared.quoting.Quotes.{Quotes}
use Rattle.rdf_lexical.specs.declared.quoting.Quotes.TheVariants.{Double, Single, LongDouble, LongSingle}
use Rattle.rdf_lexical.specs.declared.refusal.RefusalKind.{RefusalKind}
use Rattle.rdf_lexical.specs.declared.refusal.RefusalKind.TheVariants.{NoToken, BadEscape, UnexpectedEnd}
use Rattle.rdf_lexical.specs.declared.enclosing.Enclosed.{Enclosed}
use Rattle.rdf_lexical.specs.declared.enclosing.Enclosed.TheVariants.{Iri, Text}
use Rattle.rdf_lexical.specs.declared.enclosing.Piece.{Piece}
use Rattle.rdf_lexical.specs.declared.enclosing.Piece.TheVariants.{Held, Closing, Faulty}
use Rattle.rdf_lexical.specs.declared.escapes.Escape.{Escape}
use Rattle.rdf_lexical.specs.declared.escapes.Escape.TheVariants as escapes
use Rattle.rdf_lexical.specs.Escaping.{escape_at}
use Rattle.rdf_lexical.specs.Quoting.{quotes_length}

-- what closes a token, once or three times
abbrev pub quote_of : Quotes → ℕ
quote_of Double = 34
quote_of Single = 39
quote_of LongDouble = 34
quote_of LongSingle = 39

abbrev pub mark : Enclosed → ℕ
mark Iri = 62
mark (Text quotes) = quote_of quotes

abbrev pub closing_length : Enclosed → ℕ
closing_length Iri = 1
closing_length (Text quotes) = quotes_length quotes

-- the characters that stand for themselves: those of IRIREF; in short strings all but the quote, the backslash, LF and
-- CR; in long ones all but the quote and the backslash
abbrev pub is_held : Quotes → ℕ → Bool
is_held Double c = not (c == 34 || c == 92 || c == 10 || c == 13)
is_held Single c = not (c == 39 || c == 92 || c == 10 || c == 13)
is_held LongDouble c = not (c == 34 || c == 92)
is_held LongSingle c = not (c == 39 || c == 92)

abbrev pub may_hold : Enclosed → ℕ → Bool
may_hold Iri c = is_iri_char c
may_hold (Text quotes) c = is_held quotes c

-- how many of the first characters are ASCII and stand for themselves
abbrev pub plain_length : Enclosed → List ℕ → ℕ
plain_length e [] = 0
plain_length e (c ∷ cs) = if nat_lt c 128 && may_hold e c then suc (plain_length e cs) else 0

-- an escape of so many characters after its backslash: an IRIREF has UCHAR alone, which has more than one, and only for
-- characters that it may hold
abbrev pub may_hold_escaped : Enclosed → ℕ → ℕ → Bool
may_hold_escaped Iri c n = nat_lt 1 n && is_iri_char c
may_hold_escaped (Text quotes) c n = true

abbrev pub escaped_unit : Enclosed → Escape → Piece
escaped_unit e (escapes.Character c n) = if may_hold_escaped e c n then Held (suc n) else Faulty BadEscape
escaped_unit e escapes.Cut = Faulty UnexpectedEnd
escaped_unit e escapes.Faulty = Faulty BadEscape

-- a character or an escape
abbrev pub unit : Enclosed → List ℕ → Piece
unit e [] = Faulty UnexpectedEnd
unit e (c ∷ cs) = if c == 92 then escaped_unit e (escape_at cs) else (if may_hold e c then Held 1 else Faulty NoToken)

-- how many of these characters stand at the beginning, at most so many
abbrev pub leading_marks : ℕ → ℕ → List ℕ → ℕ
leading_marks m most [] = 0
leading_marks m most (c ∷ cs) = if most == 0 then 0 else (if c == m then suc (leading_marks m (most - 1) cs) else 0)

abbrev pub with_marks : ℕ → Piece → Piece
with_marks n (Held k) = Held (n + k)
with_marks n (Closing k) = Closing k
with_marks n (Faulty fault) = Faulty fault

-- What comes next: what closes the token, or a character or an escape, in long strings with one or two quotes before it.
abbrev pub piece_after : Enclosed → ℕ → List ℕ → Piece
piece_after e marks cs = if marks == closing_length e then Closing marks else with_marks marks (unit e (drop marks cs))

abbrev pub next_piece : Enclosed → List ℕ → Piece
next_piece e cs = piece_after e (leading_marks (mark e) (closing_length e) cs) cs

abbrev pub one_more : Result ℕ RefusalKind → Result ℕ RefusalKind
one_more (Ok n) = Ok (suc n)
one_more (Err fault) = Err fault

abbrev pub with_piece : Piece → (ℕ → Result ℕ RefusalKind) → Result ℕ RefusalKind
with_piece (Held n) more = one_more (more (n - 1))
with_piece (Closing n) more = Ok n
with_piece (Faulty fault) more = Err fault

-- How many characters the token has, with what closes it, after so many that belong to a piece before.
abbrev pub enclosed_length : Enclosed → ℕ → List ℕ → Result ℕ RefusalKind
enclosed_length e n [] = Err UnexpectedEnd
enclosed_length e (suc n) (c ∷ cs) = one_more (enclosed_length e n cs)
enclosed_length e zero (c ∷ cs) = with_piece (next_piece e (c ∷ cs)) (λ n. enclosed_length e n cs)

abbrev pub opened : ℕ → Result ℕ RefusalKind → Result ℕ RefusalKind
opened n (Ok m) = Ok (n + m)
opened n (Err fault) = Err fault

-- a piece has one character or more, and at most so many
abbrev pub IsWithin : Piece → ℕ → Type 0
IsWithin (Held n) most = (0 < n) × (n ≤ most)
IsWithin (Closing n) most = (0 < n) × (n ≤ most)
IsWithin (Faulty fault) most = Unit {0}
