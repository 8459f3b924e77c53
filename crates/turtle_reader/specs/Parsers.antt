-- Parsers: what the productions of Turtle 1.1 do, one after another. A parser goes from one state to the next and gives
-- something, or it meets the refusal that counts, the first from left to right.
use Rattle.std.specs.Prelude.{ℕ, zero, suc, ◌-◌, Bool, List, length, Option, Some, None, Result, Ok, Err, if◌then◌else◌}
use Rattle.turtle_lex.specs.declared.token.Token.{Token}
use Rattle.turtle_lex.specs.declared.token.LexFault.{LexFault}
use Rattle.turtle_reader.specs.declared.state.State.{State}
use Rattle.rdf_lexical.specs.declared.refusal.RefusalKind.{RefusalKind}

-- a refusal: its line and kind
abbrev pub Refusal : Type 0
Refusal = ℕ × RefusalKind

abbrev pub Outcome : Type 0 → Type 0
Outcome X = Result (X × State) Refusal

abbrev pub Parser : Type 0 → Type 0
Parser X = State → Outcome X

-- one parser, and then another
abbrev pub and_then : {A B : Type 0} → Outcome A → (A → Parser B) → Outcome B
and_then (Ok r) f = f r.0 r.1
and_then (Err refusal) f = Err refusal

infixl 10 ◌>>=◌
abbrev pub ◌>>=◌ : {A B : Type 0} → Parser A → (A → Parser B) → Parser B
◌>>=◌ f g s = and_then (f s) g

-- nothing is read
abbrev pub give : {A : Type 0} → A → Parser A
give x s = Ok (x, s)

abbrev pub refuse : {A : Type 0} → ℕ → RefusalKind → Parser A
refuse line kind s = Err (line, kind)

-- by what the state is
abbrev pub asking : {A B : Type 0} → (State → A) → (A → Parser B) → Parser B
asking f g s = g (f s) s

-- How much of the text stands behind the token ahead, and one more; nothing where none is left. It bounds how often a
-- repetition can go on.
abbrev pub left_behind : List ℕ → Result (Option Token) LexFault → ℕ
left_behind text (Ok (Some t)) = suc (length text - t.end.at)
left_behind text (Ok None) = 0
left_behind text (Err fault) = 0

abbrev pub left : List ℕ → State → ℕ
left text s = left_behind text s.ahead

-- `( .. )*`: a parser again and again, as long as the test holds, at most so many times
abbrev pub repeated : {X : Type 0} → ℕ → (State → Bool) → (X → Parser X) → X → Parser X
repeated zero goes_on body x s = Ok (x, s)
repeated (suc n) goes_on body x s = if goes_on s then and_then (body x s) (repeated n goes_on body) else Ok (x, s)

-- each turn takes a token, so the text's length is enough
unfoldable pub many : {X : Type 0} → List ℕ → (State → Bool) → (X → Parser X) → X → Parser X
many text goes_on body x s = repeated (suc (left text s)) goes_on body x s
