-- The proleptic Gregorian calendar: XSD 1.1 Part 2, section D.2 and appendix E.3.
-- Days are counted from 1 January of the year 0.
use Rattle.std.specs.Prelude.{◌≡◌, ◌≤◌, ℕ, zero, suc, ◌+◌, ◌-◌, ◌%◌, Bool, not, ◌&&◌, ◌||◌, ◌==◌, if◌then◌else◌}

-- every fourth year, but of the centuries only every fourth
abbrev pub is_leap_year : ℕ → Bool
is_leap_year year = (year % 4 == 0) && (not (year % 100 == 0) || (year % 400 == 0))

abbrev pub days_in_year : ℕ → ℕ
days_in_year year = if is_leap_year year then 366 else 365

-- thirty days have April, June, September and November
abbrev pub days_in_month : ℕ → ℕ → ℕ
days_in_month year month =
    if month == 2 then (if is_leap_year year then 29 else 28)
    else (if (month == 4) || (month == 6) || (month == 9) || (month == 11) then 30 else 31)

-- the days of the years before this one
unfoldable pub days_before_year : ℕ → ℕ
days_before_year zero = 0
days_before_year (suc year) = days_before_year year + days_in_year year

-- the days of the first n months of the year
unfoldable pub days_of_months : ℕ → ℕ → ℕ
days_of_months year zero = 0
days_of_months year (suc n) = days_of_months year n + days_in_month year (suc n)

-- the number of a day: 0 for 0000-01-01
unfoldable pub day_number : ℕ → ℕ → ℕ → ℕ
day_number year month day = days_before_year year + days_of_months year (month - 1) + (day - 1)

-- days are counted one by one, through the months and the years
pub record DaysFollow : Type 0 where
  pub first : day_number 0 1 1 ≡ 0
  pub in_month : (year month day : ℕ) → 1 ≤ day → day_number year month (day + 1) ≡ day_number year month day + 1
  pub next_month : (year month : ℕ) → 1 ≤ month → day_number year (month + 1) 1 ≡ day_number year month (days_in_month year month) + 1
  pub next_year : (year : ℕ) → day_number (year + 1) 1 1 ≡ day_number year 12 31 + 1
