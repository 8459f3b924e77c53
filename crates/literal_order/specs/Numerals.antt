-- Decimals, integers and booleans by their lexical forms: XSD 1.1 Part 2, sections 3.3.3, 3.3.2 and
-- 3.4.13 to 3.4.25. A number is counted in units of 10^-18.
use Rattle.std.specs.Prelude.{ℕ, ◌+◌, ◌*◌, ◌^◌, Bool, true, false, not, ◌&&◌, ◌||◌, ◌==◌, List, [], ◌∷◌, Option, Some, None, ℤ, pos, neg_ℤ, codes, bytes_eq, if◌then◌else◌}
use Rattle.std.specs.List.{before_first, after_first}
use Rattle.literal_order.specs.Datatypes.{is_in_range}
use Rattle.literal_order.specs.Digits.{is_empty, is_negative, are_digits, whole_number, fraction_number}
use Rattle.literal_order.specs.declared.datatype.IntegerType.{IntegerType}
use Rattle.literal_order.specs.declared.literal_value.LiteralValue.TheVariants as values
use Rattle.literal_order.specs.declared.literal_value.LiteralReading.{LiteralReading}
use Rattle.literal_order.specs.declared.literal_value.LiteralReading.TheVariants.{IllTyped, Refused, Value}
use Rattle.literal_order.specs.declared.literal_value.ProfileRefusal.TheVariants.{TooManyDigits}

-- what follows the sign, `+` or `-`, if there is one
abbrev pub unsigned : List ℕ → List ℕ
unsigned [] = []
unsigned (c ∷ cs) = if c == 45 || c == 43 then cs else c ∷ cs

abbrev pub signed : Bool → ℕ → ℤ
signed negative n = if negative then neg_ℤ (pos n) else pos n

-- the digits before and after the point
abbrev pub whole_digits : List ℕ → List ℕ
whole_digits text = before_first (λ c. c == 46) text

abbrev pub fraction_digits : List ℕ → List ℕ
fraction_digits text = after_first (λ c. c == 46) text

-- [0-9]+
abbrev pub is_integer_form : List ℕ → Bool
is_integer_form digits = not (is_empty digits) && are_digits digits

-- [0-9]+(\.[0-9]*)?|\.[0-9]+
abbrev pub is_decimal_form : List ℕ → List ℕ → Bool
is_decimal_form whole fraction =
    (not (is_empty whole) || not (is_empty fraction)) && are_digits whole && are_digits fraction

abbrev pub integer_value : IntegerType → Bool → Option ℕ → LiteralReading
integer_value kind negative None = Refused TooManyDigits
integer_value kind negative (Some n) =
    if is_in_range kind (signed negative n) then Value (values.Number (signed negative (n * 10 ^ 18)))
    else IllTyped

-- an integer type's literal: its form, then the limit of digits, then the type's range
unfoldable pub integer_reading : IntegerType → List ℕ → LiteralReading
integer_reading kind text =
    if is_integer_form (unsigned text) then integer_value kind (is_negative text) (whole_number (unsigned text))
    else IllTyped

abbrev pub decimal_value : Bool → Option ℕ → Option ℕ → LiteralReading
decimal_value negative None fraction = Refused TooManyDigits
decimal_value negative (Some whole) None = Refused TooManyDigits
decimal_value negative (Some whole) (Some fraction) =
    Value (values.Number (signed negative (whole * 10 ^ 18 + fraction)))

abbrev pub decimal_of_parts : Bool → List ℕ → List ℕ → LiteralReading
decimal_of_parts negative whole fraction =
    if is_decimal_form whole fraction then decimal_value negative (whole_number whole) (fraction_number fraction)
    else IllTyped

-- a decimal literal: its form, then the limits of digits
unfoldable pub decimal_reading : List ℕ → LiteralReading
decimal_reading text =
    decimal_of_parts (is_negative text) (whole_digits (unsigned text)) (fraction_digits (unsigned text))

-- true, false, 1 and 0
unfoldable pub boolean_reading : List ℕ → LiteralReading
boolean_reading text =
    if bytes_eq text (codes "true") || bytes_eq text (codes "1") then Value (values.Boolean true)
    else (if bytes_eq text (codes "false") || bytes_eq text (codes "0") then Value (values.Boolean false)
    else IllTyped)
