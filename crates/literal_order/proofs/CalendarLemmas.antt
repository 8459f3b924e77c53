-- The library's day numbers are those of specs/Calendar.antt.
use Rattle.std.proofs.Common.{◌≡◌, ℕ, zero, suc, ◌+◌, ◌-◌, ◌^◌, ◌<◌, ◌≤◌, ℤ, pos, neg_ℤ, ◌+ℤ◌, ◌≤ℤ◌, true, false, cond, add-one, FitsSigned, w32, to_z, of_z, nat_le, Some, None, refl, sym, ap, arith}
use Rattle.jiff.specs.Words.{days_in_month as civil_days_in_month, epoch_day, IsYmd, IsEpochDay}
use Rattle.jiff.specs.Types.{Date}
use Rattle.jiff.proofs.SpanFacts.{signed_arith}
use Rattle.jiff.proofs.Family.{days_from_civil-day, days_from_civil-next_month, days_from_civil-next_year, days_from_civil-max}
use Rattle.std.specs.Int.{IsInRange}
use Rattle.std.proofs.lemmas.Int.{to_z-of_z}
use Rattle.std.proofs.lemmas.Bool.{and_from, le-leb, cond-true}
use Rattle.literal_order.specs.Dates.{day_number_of, is_from_to}
use Rattle.literal_order.specs.Calendar.{is_leap_year, days_in_month, days_in_year, days_before_year, days_of_months, day_number}

-- f counts days in turn, and gives 9999-12-31 this number
pub record CountsDays (f : ℤ → ℕ → ℕ → ℤ) : Type 0 where
  pub by_day : (y : ℤ) (m d e : ℕ) → 1 ≤ d → 1 ≤ e → f y m d +ℤ pos e ≡ f y m e +ℤ pos d
  pub next_month : (y : ℤ) (m d : ℕ) → 1 ≤ m → d ≡ civil_days_in_month y m → f y (m + 1) 1 ≡ f y m d +ℤ pos 1
  pub next_year : (y next : ℤ) → neg_ℤ (pos 10000) ≤ℤ y → next ≡ y +ℤ pos 1 → f next 1 1 ≡ f y 12 31 +ℤ pos 1
  pub last : f (pos 9999) 12 31 ≡ pos 2_932_896

pub days_in_month_bounds : (y m : ℕ) → 28 ≤ days_in_month y m
days_in_month_bounds y m = grind arith

-- the first of a month
pub month_start : (f : ℤ → ℕ → ℕ → ℤ) → CountsDays f → (y m : ℕ) → f (pos y) (suc m) 1 ≡ f (pos y) 1 1 +ℤ pos (days_of_months y m)
unfolding days_of_months
month_start f h y zero = omega (arith, signed_arith)
month_start f h y (suc m) =
    let long = days_in_month_bounds y (suc m) in
    let next : f (pos y) (suc m + 1) 1 ≡ f (pos y) (suc m) (days_in_month y (suc m)) +ℤ pos 1 = h.next_month (pos y) (suc m) _ (omega arith) refl in
    let same : f (pos y) (suc (suc m)) 1 ≡ f (pos y) (suc m + 1) 1 = ap (λ k. f (pos y) k 1) (sym (add-one (suc m))) in
    let within = h.by_day (pos y) (suc m) (days_in_month y (suc m)) 1 (omega arith) (omega arith) in
    let before = month_start f h y m in
    omega (arith, signed_arith)

pub year_length : (y : ℕ) → days_of_months y 11 + 31 ≡ days_in_year y
unfolding days_of_months
year_length y = elim (is_leap_year y) as (λ b. 0 + 31 + cond b 29 28 + 31 + 30 + 31 + 30 + 31 + 31 + 30 + 31 + 30 + 31 ≡ cond b 366 365) [ true ↦ refl | false ↦ refl ]

-- the first of a year
pub next_start : (f : ℤ → ℕ → ℕ → ℤ) → CountsDays f → (y : ℕ) → f (pos (suc y)) 1 1 ≡ f (pos y) 1 1 +ℤ pos (days_in_year y)
next_start f h y =
    let next = h.next_year (pos y) (pos (suc y)) (omega (arith, signed_arith)) (omega (arith, signed_arith)) in
    let within = h.by_day (pos y) 12 31 1 (omega arith) (omega arith) in
    let months = month_start f h y 11 in
    let long = year_length y in
    omega (arith, signed_arith)

pub year_start : (f : ℤ → ℕ → ℕ → ℤ) → CountsDays f → (y : ℕ) → f (pos y) 1 1 ≡ f (pos 0) 1 1 +ℤ pos (days_before_year y)
unfolding days_before_year
year_start f h zero = omega (arith, signed_arith)
year_start f h (suc y) =
    let before = year_start f h y in
    let next = next_start f h y in
    omega (arith, signed_arith)

pub days_before-9999 : days_before_year 9999 ≡ 3_652_060
unfolding days_before_year
days_before-9999 = refl

pub counted : (f : ℤ → ℕ → ℕ → ℤ) → CountsDays f → (y m d : ℕ) → 1 ≤ m → 1 ≤ d → f (pos y) m d +ℤ pos 719_528 ≡ pos (day_number y m d)
unfolding day_number
counted f h y zero d m_in d_in = absurd (omega arith)
counted f h y (suc m) d m_in d_in =
    let last_year = year_start f h 9999 in
    let last_month = month_start f h 9999 11 in
    let last_day = h.by_day (pos 9999) 12 31 1 (omega arith) (omega arith) in
    let total = days_before-9999 in
    let year = year_start f h y in
    let month = month_start f h y m in
    let day = h.by_day (pos y) (suc m) d 1 d_in (omega arith) in
    let long = year_length 9999 in
    let place : suc m - 1 ≡ m = omega arith in
    rw place (omega (arith, signed_arith))

counted_at : (f : ℤ → ℕ → ℕ → ℤ) → CountsDays f → (z : ℤ) (n k y m d : ℕ) → z ≡ pos y → n ≡ m → k ≡ d → 1 ≤ m → 1 ≤ d → f z n k +ℤ pos 719_528 ≡ pos (day_number y m d)
counted_at f h z n k y m d year month day m_in d_in = rw (year, month, day) (counted f h y m d m_in d_in)

same_number : (a b : ℕ) → pos a ≡ pos b → a ≡ b
same_number a b h = cc

-- the number of a date of the library, from 1 January of the year 0
pub date_number : (date : Date) (y m d : ℕ) → IsYmd (pos y) (pos m) (pos d) date → epoch_day date +ℤ pos 719_528 ≡ pos (day_number y m d)
date_number date y m d h =
    let month = same_number date.month m h.1 in
    let day = same_number date.day d h.2 in
    let first_month = date.month_in.0 in
    let first_day = date.day_in.0 in
    counted_at _ (record { by_day = days_from_civil-day; next_month = days_from_civil-next_month; next_year = days_from_civil-next_year; last = days_from_civil-max }) date.year date.month date.day y m d h.0 month day (omega arith) (omega arith)

-- a date of the library is one of the calendar
pub date_there : (date : Date) (y m d : ℕ) → IsYmd (pos y) (pos m) (pos d) date → day_number_of y m d ≡ Some (day_number y m d)
date_there date y m d h =
    let month = same_number date.month m h.1 in
    let day = same_number date.day d h.2 in
    let in_year : IsInRange 1 12 m = rw month at date.month_in in
    let in_month : IsInRange 1 (days_in_month y m) d = rw (h.0, month, day) at date.day_in in
    let of_year = and_from (nat_le 1 m) (nat_le m 12) (le-leb 1 m in_year.0) (le-leb m 12 in_year.1) in
    let of_month = and_from (nat_le 1 d) (nat_le d (days_in_month y m)) (le-leb 1 d in_month.0) (le-leb d _ in_month.1) in
    cond-true _ (Some (day_number y m d)) None (and_from (is_from_to 1 12 m) (is_from_to 1 (days_in_month y m) d) of_year of_month)

-- the cast from the library's number
pub cast_day : (r : ℤ) (n : ℕ) → r +ℤ pos 719_528 ≡ pos n → IsEpochDay r → to_z w32 (of_z w32 (to_z w32 (of_z w32 r) +ℤ pos 719_528)) ≡ pos n
cast_day r n e bound =
    let fits : FitsSigned w32 r = omega (arith, signed_arith) in
    let sum_fits : FitsSigned w32 (pos n) = omega (arith, signed_arith) in
    rw (to_z-of_z w32 r fits, e, to_z-of_z w32 (pos n) sum_fits) refl

pub small_day : (r : ℤ) (n : ℕ) → r +ℤ pos 719_528 ≡ pos n → IsEpochDay r → n < 2 ^ 32
small_day r n e bound = omega (arith, signed_arith)

-- a day of the year 1 or later is not the first of the count
pub after_first : (y m d : ℕ) → 1 ≤ y → 1 ≤ day_number y m d
unfolding day_number days_before_year
after_first zero m d h = absurd (omega arith)
after_first (suc y) m d h = let long : 365 ≤ days_in_year y = grind arith in omega arith

no_months : (y : ℕ) → days_of_months y 0 ≡ 0
unfolding days_of_months
no_months y = refl

pub first_day : day_number 0 1 1 ≡ 0
unfolding day_number days_before_year days_of_months
first_day = refl

pub follow_month : (y m d : ℕ) → 1 ≤ d → day_number y m (d + 1) ≡ day_number y m d + 1
unfolding day_number
follow_month y m d h = omega arith

pub follow_next_month : (y m : ℕ) → 1 ≤ m → day_number y (m + 1) 1 ≡ day_number y m (days_in_month y m) + 1
unfolding day_number days_of_months
follow_next_month y zero h = absurd (omega arith)
follow_next_month y (suc m) h =
    let long = days_in_month_bounds y (suc m) in
    let after : suc m + 1 - 1 ≡ suc m = omega arith in
    let before : suc m - 1 ≡ m = omega arith in
    rw (after, before) (omega arith)

pub follow_next_year : (y : ℕ) → day_number (y + 1) 1 1 ≡ day_number y 12 31 + 1
unfolding day_number days_before_year
follow_next_year y =
    let long = year_length y in
    let none : days_of_months (suc y) 0 ≡ 0 = no_months (suc y) in
    rw add-one (omega arith)
