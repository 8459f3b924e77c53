-- The patterns of XSD 1.1 Part 2 for booleans (3.3.2.2), decimals (3.3.3.1) and integers (3.4.13.1), part by part.
use Rattle.std.specs.Prelude.{◌≡◌, ◌≢◌, ◌↔◌, ◌⊎◌, true, List, [], ◌∷◌, ◌++◌, ℕ, codes}
use Rattle.literal_order.specs.Digits.{are_digits}
use Rattle.literal_order.specs.Numerals.{integer_reading, decimal_reading, boolean_reading}
use Rattle.literal_order.specs.declared.datatype.IntegerType.TheVariants.{Integer}
use Rattle.literal_order.specs.declared.literal_value.LiteralReading.TheVariants.{IllTyped}

-- [+-]?
abbrev pub IsSign : List ℕ → Type 0
IsSign sign = (sign ≡ []) ⊎ ((sign ≡ 43 ∷ []) ⊎ (sign ≡ 45 ∷ []))

-- [0-9]*
abbrev pub AreDigits : List ℕ → Type 0
AreDigits digits = are_digits digits ≡ true

-- [+-]?[0-9]+
abbrev pub IsIntegerForm : List ℕ → Type 0
IsIntegerForm text = (sign digits : List ℕ) × IsSign sign × AreDigits digits × (digits ≢ []) × (text ≡ sign ++ digits)

-- [+-]?([0-9]+(\.[0-9]*)?|\.[0-9]+)
abbrev pub IsDecimalForm : List ℕ → Type 0
IsDecimalForm text = (sign whole fraction : List ℕ) × IsSign sign × AreDigits whole × AreDigits fraction × (((whole ≢ []) × (text ≡ sign ++ whole)) ⊎ (((whole ≢ []) ⊎ (fraction ≢ [])) × (text ≡ sign ++ (whole ++ 46 ∷ fraction))))

-- true|false|1|0
abbrev pub IsBooleanForm : List ℕ → Type 0
IsBooleanForm text = ((text ≡ codes "true") ⊎ (text ≡ codes "1")) ⊎ ((text ≡ codes "false") ⊎ (text ≡ codes "0"))

abbrev pub BooleanForms : Type 0
BooleanForms = (text : List ℕ) → (boolean_reading text ≢ IllTyped) ↔ IsBooleanForm text

-- the well-formed integers and decimals are those of the patterns
abbrev pub IntegerForms : Type 0
IntegerForms = (text : List ℕ) → (integer_reading Integer text ≢ IllTyped) ↔ IsIntegerForm text

abbrev pub DecimalForms : Type 0
DecimalForms = (text : List ℕ) → (decimal_reading text ≢ IllTyped) ↔ IsDecimalForm text
