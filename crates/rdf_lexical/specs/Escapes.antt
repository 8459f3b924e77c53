-- Escapes of strings and IRIs (N-Triples 1.1 sections 2.3 and 7, Turtle 1.1 section 6.4).
use Rattle.std.specs.Prelude.{ℕ, ◌+◌, ◌-◌, ◌*◌, List, [], ◌∷◌, Option, Some, None, nat_lt, ◌==◌, ◌||◌, if◌then◌else◌}
use Rattle.rdf_lexical.specs.Characters.{is_within}

-- ECHAR: what the character after the backslash stands for, one of `t b n r f " ' \`
abbrev pub escaped_char : ℕ → Option ℕ
escaped_char c = if c == 116 then Some 9 else
    (if c == 98 then Some 8 else
    (if c == 110 then Some 10 else
    (if c == 114 then Some 13 else
    (if c == 102 then Some 12 else
    (if c == 34 || c == 39 || c == 92 then Some c else None)))))

-- HEX: the value of a hexadecimal digit
abbrev pub hex_value : ℕ → Option ℕ
hex_value c = if is_within 48 57 c then Some (c - 48) else
    (if is_within 65 70 c then Some (c - 55) else
    (if is_within 97 102 c then Some (c - 87) else None))

-- the number that hexadecimal digits spell after those that gave n; none where one is no digit
abbrev pub digit_then : Option ℕ → (ℕ → Option ℕ) → Option ℕ
digit_then None more = None
digit_then (Some v) more = more v

abbrev pub hex_number_from : ℕ → List ℕ → Option ℕ
hex_number_from n [] = Some n
hex_number_from n (c ∷ cs) = digit_then (hex_value c) (λ v. hex_number_from (16 * n + v) cs)

-- a Unicode character: no surrogate, and at most 10FFFF
abbrev pub scalar_of : Option ℕ → Option ℕ
scalar_of None = None
scalar_of (Some n) = if nat_lt n 0xD800 || is_within 0xE000 0x10FFFF n then Some n else None

-- UCHAR: the character that the digits after `\u` or `\U` stand for
abbrev pub numbered_char : List ℕ → Option ℕ
numbered_char digits = scalar_of (hex_number_from 0 digits)
