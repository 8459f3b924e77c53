-- The parts of a day, as they are read and as they are written.
use Rattle.std.proofs.Common.{◌≡◌, ◌∙◌, ◌⊎◌, inl, inr, subst, ℕ, ◌<◌, ◌≤◌, Bool, true, false, not, cond, ◌&&◌, nat_eq, List, [], ◌∷◌, ◌++◌, length, Option, Some, None, refl, sym, ap, append_assoc, arith}
use Rattle.std.specs.Prelude.{nat_le, nat_lt, option_map}
use Rattle.std.specs.Char.{is_ascii_digit}
use Rattle.std.proofs.lemmas.Bool.{and_parts, and_from, or_cases, or_left, or_right, cond-true, cond-false, eqb-true, not-true, not_from_false}
use Rattle.std.proofs.lemmas.Bool.Decides.{Decides-eqb, nat_tests}
use Rattle.std.proofs.lemmas.Option.{cond_some, option_and_then_some, some_pair_parts}
use Rattle.literal_order.specs.Calendar.{days_in_month, day_number}
use Rattle.literal_order.specs.Dates.{field, year, date, civil_day, is_from_to, is_year_form, begins_with_zero, year_number, leading_digits, after_digits, after_minus, ◌>>=◌}
use Rattle.literal_order.specs.Digits.{is_negative, are_digits}
use Rattle.literal_order.specs.declared.date_time.Day.{Day}
use Rattle.literal_order.specs.declared.date_time.Day.TheVariants as days
use Rattle.literal_laws.specs.DateForms.{IsMinus, IsYear, IsDay, last_day}
use Rattle.literal_laws.proofs.Fields.{field_from, field_to, BeginsOtherwise, leading, after, digits_and_rest, leading_are_digits}

-- the minus, and what follows it
minus_case : (c : ℕ) (cs : List ℕ) (b : Bool) → nat_eq c 45 ≡ b → (m : List ℕ) × IsMinus m × (c ∷ cs ≡ m ++ cond b cs (c ∷ cs)) × (b ≡ is_negative m)
minus_case c cs true e = (45 ∷ [], inr refl, ap (λ d. d ∷ cs) (eqb-true c 45 e), refl)
minus_case c cs false e = ([], inl refl, refl, refl)

minus_parts : (text : List ℕ) → (m : List ℕ) × IsMinus m × (text ≡ m ++ after_minus text) × (is_negative text ≡ is_negative m)
minus_parts [] = ([], inl refl, refl, refl)
minus_parts (c ∷ cs) = minus_case c cs (nat_eq c 45) refl

-- no minus in front
abbrev BeginsPlain : List ℕ → Type 0
BeginsPlain [] = Unit {0}
BeginsPlain (c ∷ cs) = nat_eq c 45 ≡ false

plain_after : (text : List ℕ) → BeginsPlain text → after_minus text ≡ text
plain_after [] h = refl
plain_after (c ∷ cs) h = cond-false (nat_eq c 45) cs (c ∷ cs) h

plain_sign : (text : List ℕ) → BeginsPlain text → is_negative text ≡ false
plain_sign [] h = refl
plain_sign (c ∷ cs) h = h

after_of : (m rest : List ℕ) → IsMinus m → BeginsPlain rest → after_minus (m ++ rest) ≡ rest
after_of m rest (inl e) h = ap (λ t. after_minus (t ++ rest)) e ∙ plain_after rest h
after_of m rest (inr e) h = ap (λ t. after_minus (t ++ rest)) e

sign_of : (m rest : List ℕ) → IsMinus m → BeginsPlain rest → is_negative (m ++ rest) ≡ is_negative m
sign_of m rest (inl e) h = ap (λ t. is_negative (t ++ rest)) e ∙ plain_sign rest h ∙ sym (ap is_negative e)
sign_of m rest (inr e) h = ap (λ t. is_negative (t ++ rest)) e ∙ sym (ap is_negative e)

digit_plain : (c : ℕ) → is_ascii_digit c ≡ true → nat_eq c 45 ≡ false
digit_plain c h = grind (arith, nat_tests)

year_plain : (ds rest : List ℕ) → IsYear ds → BeginsPlain (ds ++ rest)
year_plain [] rest h = absurd (elim h.four [ inl e ↦ (let none : 0 ≡ 4 = e in omega (arith, none)) | inr p ↦ (let none : 4 < 0 = p.0 in omega (arith, none)) ])
year_plain (c ∷ cs) rest h = digit_plain c (and_parts (is_ascii_digit c) (are_digits cs) h.digits).0

-- tests and what they say
is_less : (a b : ℕ) → a < b → nat_lt a b ≡ true
is_less a b h = grind (arith, nat_tests)

is_at_most : (a b : ℕ) → a ≤ b → nat_le a b ≡ true
is_at_most a b h = grind (arith, nat_tests)

-- the year's digits
four_from : (ds : List ℕ) → is_year_form ds ≡ true → (length ds ≡ 4) ⊎ ((4 < length ds) × (begins_with_zero ds ≡ false))
four_from ds h = elim (or_cases (nat_eq (length ds) 4) (nat_lt 4 (length ds) && not (begins_with_zero ds)) h) [
  | inl e ↦ inl (eqb-true (length ds) 4 e)
  | inr e ↦ (let parts = and_parts (nat_lt 4 (length ds)) (not (begins_with_zero ds)) e in inr (grind (arith, nat_tests), not-true (begins_with_zero ds) parts.1))
]

four_to : (ds : List ℕ) → IsYear ds → is_year_form ds ≡ true
four_to ds h = elim h.four [
  | inl e ↦ or_left (nat_eq (length ds) 4) (nat_lt 4 (length ds) && not (begins_with_zero ds)) ((Decides-eqb (length ds) 4).1 e)
  | inr p ↦ or_right (nat_eq (length ds) 4) (nat_lt 4 (length ds) && not (begins_with_zero ds)) (and_from (nat_lt 4 (length ds)) (not (begins_with_zero ds)) (is_less 4 (length ds) p.0) (not_from_false (begins_with_zero ds) p.1))
]

-- the year and what follows
abbrev YearParts : List ℕ → Option ℕ → List ℕ → Type 0
YearParts text y rest = (m : List ℕ) × (ds : List ℕ) × (text ≡ m ++ (ds ++ rest)) × IsMinus m × IsYear ds × (year_number (is_negative m) ds ≡ y)

year_from : (text : List ℕ) (y : Option ℕ) (rest : List ℕ) → year text ≡ Some (y, rest) → YearParts text y rest
unfolding year
year_from text y rest h =
    let sign = minus_parts text in
    let ds = leading_digits (after_minus text) in
    let found = cond_some (is_year_form ds) (year_number (is_negative text) ds, after_digits (after_minus text)) (y, rest) h in
    let number : year_number (is_negative text) ds ≡ y = ap (λ (p : Option ℕ × List ℕ). p.0) found.1 in
    let left : after_digits (after_minus text) ≡ rest = ap (λ (p : Option ℕ × List ℕ). p.1) found.1 in
    let is_year : IsYear ds = record { digits = leading_are_digits (after_minus text); four = four_from ds found.0 } in
    (sign.0, ds, sign.2 ∙ ap (λ t. sign.0 ++ t) (digits_and_rest (after_minus text) ∙ ap (λ r. ds ++ r) left), sign.1, is_year, ap (λ b. year_number b ds) (sym sign.3) ∙ number)

year_to : (m ds rest : List ℕ) → IsMinus m → IsYear ds → BeginsOtherwise rest → year (m ++ (ds ++ rest)) ≡ Some (year_number (is_negative m) ds, rest)
unfolding year
year_to m ds rest sign is_year h =
    let plain = year_plain ds rest is_year in
    let front = after_of m (ds ++ rest) sign plain in
    let negative = sign_of m (ds ++ rest) sign plain in
    let digits : leading_digits (after_minus (m ++ (ds ++ rest))) ≡ ds = ap leading_digits front ∙ leading ds rest is_year.digits h in
    let left : after_digits (after_minus (m ++ (ds ++ rest))) ≡ rest = ap after_digits front ∙ after ds rest is_year.digits h in
    ap (λ (t : List ℕ). cond (is_year_form t) (Some (year_number (is_negative (m ++ (ds ++ rest))) t, after_digits (after_minus (m ++ (ds ++ rest))))) None) digits
    ∙ cond-true (is_year_form ds) _ None (four_to ds is_year)
    ∙ ap (λ b. Some (year_number b ds, after_digits (after_minus (m ++ (ds ++ rest))))) negative
    ∙ ap (λ r. Some (year_number (is_negative m) ds, r)) left

-- a day of the calendar, or of a year that it doesn't number
pub record HasDay (y : Option ℕ) (month day : ℕ) : Type 0 where
  pub in_year : (1 ≤ month) × (month ≤ 12)
  pub in_month : (1 ≤ day) × (day ≤ last_day y month)

from_to_from : (low high n : ℕ) → is_from_to low high n ≡ true → (low ≤ n) × (n ≤ high)
from_to_from low high n h = let parts = and_parts (nat_le low n) (nat_le n high) h in (grind (arith, nat_tests), grind (arith, nat_tests))

from_to_to : (low high n : ℕ) → low ≤ n → n ≤ high → is_from_to low high n ≡ true
from_to_to low high n h k = and_from (nat_le low n) (nat_le n high) (is_at_most low n h) (is_at_most n high k)

numbered : (y month day : ℕ) (d : Day) (b : Bool) → (is_from_to 1 12 month && is_from_to 1 (days_in_month y month) day) ≡ b → option_map days.Number (cond b (Some (day_number y month day)) None) ≡ Some d → HasDay (Some y) month day
numbered y month day d true e k =
    let parts = and_parts (is_from_to 1 12 month) (is_from_to 1 (days_in_month y month) day) e in
    record { in_year = from_to_from 1 12 month parts.0; in_month = from_to_from 1 (days_in_month y month) day parts.1 }
numbered y month day d false e k = cc

day_from : (y : Option ℕ) (month day : ℕ) (d : Day) → civil_day y month day ≡ Some d → HasDay y month day
day_from None month day d h =
    let parts = and_parts (is_from_to 1 12 month) (is_from_to 1 31 day) (cond_some (is_from_to 1 12 month && is_from_to 1 31 day) days.YearOutOfRange d h).0 in
    record { in_year = from_to_from 1 12 month parts.0; in_month = from_to_from 1 31 day parts.1 }
day_from (Some y) month day d h = numbered y month day d (is_from_to 1 12 month && is_from_to 1 (days_in_month y month) day) refl h

day_to : (y : Option ℕ) (month day : ℕ) → HasDay y month day → (d : Day) × (civil_day y month day ≡ Some d)
day_to None month day h = (
  days.YearOutOfRange,
  cond-true (is_from_to 1 12 month && is_from_to 1 31 day) (Some days.YearOutOfRange) None
      (and_from (is_from_to 1 12 month) (is_from_to 1 31 day) (from_to_to 1 12 month h.in_year.0 h.in_year.1) (from_to_to 1 31 day h.in_month.0 h.in_month.1)),
)
day_to (Some y) month day h = (
  days.Number (day_number y month day),
  ap (λ b. option_map days.Number (cond b (Some (day_number y month day)) None))
      (and_from (is_from_to 1 12 month) (is_from_to 1 (days_in_month y month) day) (from_to_to 1 12 month h.in_year.0 h.in_year.1) (from_to_to 1 (days_in_month y month) day h.in_month.0 h.in_month.1)),
)

-- a day and what follows
abbrev pub DayParts : List ℕ → List ℕ → Type 0
DayParts text rest = (d : List ℕ) × (text ≡ d ++ rest) × IsDay d

-- the parts of a day one after another, with what follows each
joined : (m ds two twice rest : List ℕ) → m ++ (ds ++ 45 ∷ (two ++ 45 ∷ (twice ++ rest))) ≡ (m ++ (ds ++ 45 ∷ (two ++ 45 ∷ twice))) ++ rest
joined m ds two twice rest =
    sym (append_assoc m (ds ++ 45 ∷ (two ++ 45 ∷ twice)) rest
    ∙ ap (λ t. m ++ t) (append_assoc ds (45 ∷ (two ++ 45 ∷ twice)) rest ∙ ap (λ t. ds ++ 45 ∷ t) (append_assoc two (45 ∷ twice) rest)))

pub date_from : (text : List ℕ) (d : Day) (rest : List ℕ) → date text ≡ Some (d, rest) → DayParts text rest
unfolding date
date_from text d rest h =
    option_and_then_some _ (year text) (d, rest) h λ y at_year then_month.
    option_and_then_some _ (field 45 y.1) (d, rest) then_month λ m at_month then_day.
    option_and_then_some _ (field 45 m.1) (d, rest) then_day λ n at_day then_end.
    option_and_then_some _ (civil_day y.0 m.0 n.0) (d, rest) then_end λ found at_civil last.
    let year_parts = year_from text y.0 y.1 at_year in
    let month_parts = field_from 45 y.1 m.0 m.1 at_month in
    let day_parts = field_from 45 m.1 n.0 n.1 at_day in
    let has = day_from y.0 m.0 n.0 found at_civil in
    let left : n.1 ≡ rest = (some_pair_parts found d n.1 rest last).1 in
    let minus = year_parts.0 in
    let ds = year_parts.1 in
    let written : text ≡ minus ++ (ds ++ 45 ∷ (month_parts.0 ++ 45 ∷ (day_parts.0 ++ rest))) =
    year_parts.2 ∙ ap (λ t. minus ++ (ds ++ t)) (month_parts.1 ∙ ap (λ t. 45 ∷ (month_parts.0 ++ t)) (day_parts.1 ∙ ap (λ t. 45 ∷ (day_parts.0 ++ t)) left)) in (
      minus ++ (ds ++ 45 ∷ (month_parts.0 ++ 45 ∷ day_parts.0)),
      written ∙ joined minus ds month_parts.0 day_parts.0 rest,
      record {
        minus = minus;
        year = ds;
        month = month_parts.0;
        day = day_parts.0;
        months = m.0;
        days = n.0;
        written = refl;
        sign = year_parts.3;
        is_year = year_parts.4;
        is_month = month_parts.2;
        is_day = day_parts.2;
        in_year = has.in_year;
        in_month = subst (λ o. (1 ≤ n.0) × (n.0 ≤ last_day o m.0)) (sym year_parts.5) has.in_month;
      },
    )

pub date_to : (t rest : List ℕ) → IsDay t → (d : Day) × (date (t ++ rest) ≡ Some (d, rest))
unfolding date
date_to t rest h =
    let y = year_number (is_negative h.minus) h.year in
    let made = day_to y h.months h.days (record { in_year = h.in_year; in_month = h.in_month }) in
    let written : t ++ rest ≡ h.minus ++ (h.year ++ 45 ∷ (h.month ++ 45 ∷ (h.day ++ rest))) = ap (λ x. x ++ rest) h.written ∙ sym (joined h.minus h.year h.month h.day rest) in
    let years : year (t ++ rest) ≡ Some (y, 45 ∷ (h.month ++ 45 ∷ (h.day ++ rest))) = ap year written ∙ year_to h.minus h.year (45 ∷ (h.month ++ 45 ∷ (h.day ++ rest))) h.sign h.is_year refl in
    let from_year : Option (Option ℕ × List ℕ) → Option (Day × List ℕ) = λ o. (o >>= λ y. field 45 y.1 >>= λ m. field 45 m.1 >>= λ d. civil_day y.0 m.0 d.0 >>= λ day. Some (day, d.1)) in
    let from_month : Option (ℕ × List ℕ) → Option (Day × List ℕ) = λ o. (o >>= λ m. field 45 m.1 >>= λ d. civil_day y m.0 d.0 >>= λ day. Some (day, d.1)) in
    let from_day : Option (ℕ × List ℕ) → Option (Day × List ℕ) = λ o. (o >>= λ d. civil_day y h.months d.0 >>= λ day. Some (day, d.1)) in
    (made.0, ap from_year years ∙ ap from_month (field_to 45 h.months h.month (45 ∷ (h.day ++ rest)) h.is_month) ∙ ap from_day (field_to 45 h.days h.day rest h.is_day) ∙ ap (λ o. o >>= λ day. Some (day, rest)) made.1)
