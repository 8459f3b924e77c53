-- Decimal digits and the numbers that they write: XSD 1.1 Part 2, section 3.3.3.1 and appendix E.1.
use Rattle.std.specs.Prelude.{ℕ, ◌+◌, ◌-◌, ◌*◌, ◌^◌, Bool, true, false, ◌&&◌, ◌==◌, List, [], ◌∷◌, length, take, drop, Option, Some, None, if◌then◌else◌}
use Rattle.std.specs.Char.{is_ascii_digit}

abbrev pub is_empty : List ℕ → Bool
is_empty text = length text == 0

-- the text begins with `-`
abbrev pub is_negative : List ℕ → Bool
is_negative [] = false
is_negative (c ∷ cs) = c == 45

-- each byte is a digit
abbrev pub are_digits : List ℕ → Bool
are_digits [] = true
are_digits (c ∷ cs) = is_ascii_digit c && are_digits cs

-- each byte is `0`
abbrev pub are_zeros : List ℕ → Bool
are_zeros [] = true
are_zeros (c ∷ cs) = c == 48 && are_zeros cs

-- the number that the digits write when they follow those of n
abbrev pub number_after : ℕ → List ℕ → ℕ
number_after n [] = n
number_after n (c ∷ cs) = number_after (10 * n + (c - 48)) cs

-- the number that the digits write
abbrev pub number : List ℕ → ℕ
number digits = number_after 0 digits

-- digits of a fraction, as a whole number of units of the last of so many places
unfoldable pub fraction_of : ℕ → List ℕ → ℕ
fraction_of places digits = number digits * 10 ^ (places - length digits)

-- the whole part of a decimal, where it has at most 20 digits after leading zeros
unfoldable pub whole_number : List ℕ → Option ℕ
whole_number digits =
    if are_zeros (take (length digits - 20) digits) then Some (number digits) else None

-- the fraction in units of 10^-18, where it has at most 18 digits before trailing zeros
unfoldable pub fraction_number : List ℕ → Option ℕ
fraction_number digits =
    if are_zeros (drop 18 digits) then Some (fraction_of 18 (take 18 digits)) else None
