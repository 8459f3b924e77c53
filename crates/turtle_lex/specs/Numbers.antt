-- The longest INTEGER, DECIMAL or DOUBLE at the beginning of a text (Turtle 1.1 section 6.5).
use Rattle.std.specs.Prelude.{ℕ, suc, ◌+◌, ◌&&◌, ◌||◌, List, [], ◌∷◌, drop, Option, Some, None, ◌==◌, nat_lt, if◌then◌else◌}
use Rattle.turtle_lex.specs.declared.token.TokenKind.{TokenKind}
use Rattle.turtle_lex.specs.declared.token.TokenKind.TheVariants.{Integer, Decimal, Double}
use Rattle.rdf_lexical.specs.declared.classes.Class.TheVariants.{Sign, Digit}
use Rattle.rdf_lexical.specs.Classes.{begins_with, run_length}

-- `[+-]?`
abbrev pub sign_length : List ℕ → ℕ
sign_length cs = if begins_with Sign cs then 1 else 0

-- `'.' [0-9]*`
abbrev pub point_length : List ℕ → ℕ
point_length [] = 0
point_length (c ∷ cs) = if c == 46 then suc (run_length Digit cs) else 0

-- `[+-]? [0-9]+`
abbrev pub signed_digits : List ℕ → ℕ
signed_digits cs = let digits = run_length Digit (drop (sign_length cs) cs) in
    if digits == 0 then 0 else sign_length cs + digits

-- EXPONENT: `[eE] [+-]? [0-9]+`
abbrev pub exponent_length : List ℕ → ℕ
exponent_length [] = 0
exponent_length (c ∷ cs) = if c == 101 || c == 69 then (if signed_digits cs == 0 then 0 else suc (signed_digits cs)) else 0

-- The kind by the digits before a dot, the characters from the dot on and those of the exponent. Without a digit
-- before or after a dot there is no number; a dot with no digit after it belongs to a DOUBLE alone.
abbrev pub number_kind : ℕ → ℕ → ℕ → Option TokenKind
number_kind digits point exponent = if digits == 0 && nat_lt point 2 then None else
    (if nat_lt 0 exponent then Some Double else
    (if nat_lt 1 point then Some Decimal else Some Integer))

-- how many of these characters a number of the kind has
abbrev pub number_length : TokenKind → ℕ → ℕ → ℕ → ℕ
number_length Double digits point exponent = digits + point + exponent
number_length Decimal digits point exponent = digits + point
number_length _ digits point exponent = digits

abbrev pub with_length : Option TokenKind → (TokenKind → ℕ) → Option (TokenKind × ℕ)
with_length None length = None
with_length (Some kind) length = Some (kind, length kind)

-- the longest number without a sign
abbrev pub unsigned_number : List ℕ → Option (TokenKind × ℕ)
unsigned_number cs =
    let digits = run_length Digit cs in
    let rest = drop digits cs in
    let point = point_length rest in
    let exponent = exponent_length (drop point rest) in
    with_length (number_kind digits point exponent) (λ kind. number_length kind digits point exponent)

abbrev pub after_sign : ℕ → Option (TokenKind × ℕ) → Option (TokenKind × ℕ)
after_sign sign None = None
after_sign sign (Some number) = Some (number.0, sign + number.1)

-- the longest number
abbrev pub number : List ℕ → Option (TokenKind × ℕ)
number cs = after_sign (sign_length cs) (unsigned_number (drop (sign_length cs) cs))
