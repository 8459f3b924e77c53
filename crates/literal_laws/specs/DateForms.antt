-- The lexical forms of dates and times, by the patterns of XSD 1.1 Part 2, part by part: sections 3.3.9.2 (date), 3.3.7.2
-- (dateTime), 3.3.7.1 (days of a month) and appendix E.3 (fragments).
use Rattle.std.specs.Prelude.{◌≡◌, ◌≢◌, ◌↔◌, ◌⊎◌, ◌≤◌, ◌<◌, true, false, ℕ, List, [], ◌∷◌, ◌++◌, length, Option, Some, None, codes}
use Rattle.literal_order.specs.Calendar.{days_in_month}
use Rattle.literal_order.specs.Dates.{begins_with_zero, year_number, date_reading, date_time_reading}
use Rattle.literal_order.specs.Digits.{is_negative, are_zeros, number}
use Rattle.literal_order.specs.Forms.{AreDigits}
use Rattle.literal_order.specs.declared.literal_value.LiteralReading.TheVariants.{IllTyped}

-- [0-9][0-9], which write n
pub record IsTwo (n : ℕ) (text : List ℕ) : Type 0 where
  pub two : length text ≡ 2
  pub digits : AreDigits text
  pub writes : number text ≡ n

-- -?
abbrev pub IsMinus : List ℕ → Type 0
IsMinus text = (text ≡ []) ⊎ (text ≡ codes "-")

-- [1-9][0-9]{3,}|0[0-9]{3}
pub record IsYear (text : List ℕ) : Type 0 where
  pub digits : AreDigits text
  pub four : (length text ≡ 4) ⊎ ((4 < length text) × (begins_with_zero text ≡ false))

-- the last day that a month may have: the calendar's in the years 0001 to 9999, else 31
abbrev pub last_day : Option ℕ → ℕ → ℕ
last_day (Some year) month = days_in_month year month
last_day None month = 31

-- -?yearFrag-monthFrag-dayFrag
pub record IsDay (text : List ℕ) : Type 0 where
  pub minus : List ℕ
  pub year : List ℕ
  pub month : List ℕ
  pub day : List ℕ
  pub months : ℕ
  pub days : ℕ
  pub written : text ≡ minus ++ (year ++ 45 ∷ (month ++ 45 ∷ day))
  pub sign : IsMinus minus
  pub is_year : IsYear year
  pub is_month : IsTwo months month
  pub is_day : IsTwo days day
  pub in_year : (1 ≤ months) × (months ≤ 12)
  pub in_month : (1 ≤ days) × (days ≤ last_day (year_number (is_negative minus) year) months)

-- (\.[0-9]+)?, with these digits
abbrev pub IsFraction : List ℕ → List ℕ → Type 0
IsFraction digits text = ((text ≡ []) × (digits ≡ [])) ⊎ ((text ≡ 46 ∷ digits) × AreDigits digits × (digits ≢ []))

-- (hourFrag:minuteFrag:secondFrag)|24:00:00(\.0+)?
pub record IsTime (text : List ℕ) : Type 0 where
  pub hour : List ℕ
  pub minute : List ℕ
  pub second : List ℕ
  pub fraction : List ℕ
  pub hours : ℕ
  pub minutes : ℕ
  pub seconds : ℕ
  pub digits : List ℕ
  pub written : text ≡ hour ++ 58 ∷ (minute ++ 58 ∷ (second ++ fraction))
  pub is_hour : IsTwo hours hour
  pub is_minute : IsTwo minutes minute
  pub is_second : IsTwo seconds second
  pub is_fraction : IsFraction digits fraction
  pub in_day : ((hours ≤ 23) × (minutes ≤ 59) × (seconds ≤ 59)) ⊎ ((hours ≡ 24) × (minutes ≡ 0) × (seconds ≡ 0) × (are_zeros digits ≡ true))

-- (\+|-)((0[0-9]|1[0-3]):minuteFrag|14:00)
pub record IsOffset (text : List ℕ) : Type 0 where
  pub sign : ℕ
  pub hour : List ℕ
  pub minute : List ℕ
  pub hours : ℕ
  pub minutes : ℕ
  pub written : text ≡ sign ∷ (hour ++ 58 ∷ minute)
  pub signed : (sign ≡ 43) ⊎ (sign ≡ 45)
  pub is_hour : IsTwo hours hour
  pub is_minute : IsTwo minutes minute
  pub limit : ((hours ≤ 13) × (minutes ≤ 59)) ⊎ ((hours ≡ 14) × (minutes ≡ 0))

-- timezoneFrag?
abbrev pub IsZone : List ℕ → Type 0
IsZone text = (text ≡ []) ⊎ ((text ≡ codes "Z") ⊎ IsOffset text)

pub record IsDateForm (text : List ℕ) : Type 0 where
  pub day : List ℕ
  pub zone : List ℕ
  pub written : text ≡ day ++ zone
  pub is_day : IsDay day
  pub is_zone : IsZone zone

pub record IsDateTimeForm (text : List ℕ) : Type 0 where
  pub day : List ℕ
  pub time : List ℕ
  pub zone : List ℕ
  pub written : text ≡ day ++ 84 ∷ (time ++ zone)
  pub is_day : IsDay day
  pub is_time : IsTime time
  pub is_zone : IsZone zone

-- the well-formed dates are those of the pattern, and so are the well-formed dateTimes
abbrev pub DateForms : Type 0
DateForms = (text : List ℕ) → (date_reading text ≢ IllTyped) ↔ IsDateForm text

abbrev pub DateTimeForms : Type 0
DateTimeForms = (text : List ℕ) → (date_time_reading text ≢ IllTyped) ↔ IsDateTimeForm text
