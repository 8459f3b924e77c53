-- Dates and times by their lexical forms: XSD 1.1 Part 2, sections 3.3.7, 3.3.9 and appendix D.
use Rattle.std.specs.Prelude.{◌≡◌, ℕ, ◌+◌, ◌-◌, ◌*◌, Bool, true, false, not, ◌&&◌, ◌||◌, ◌==◌, nat_le, nat_lt, ◌≤◌, ⊤, List, [], ◌∷◌, ◌++◌, length, drop, Option, Some, None, option_and_then, option_map, codes, bytes_eq, if◌then◌else◌, take_while}
use Rattle.std.specs.Char.{is_ascii_digit}
use Rattle.std.specs.List.{prefix_len}
use Rattle.literal_order.specs.Calendar.{days_in_month, day_number}
use Rattle.literal_order.specs.Digits.{is_empty, is_negative, are_zeros, number, fraction_of}
use Rattle.literal_order.specs.declared.date_time.Day.{Day}
use Rattle.literal_order.specs.declared.date_time.Day.TheVariants as days
use Rattle.literal_order.specs.declared.date_time.Time.{Time}
use Rattle.literal_order.specs.declared.date_time.Offset.{Offset}
use Rattle.literal_order.specs.declared.date_time.Offset.TheVariants as offsets
use Rattle.literal_order.specs.declared.literal_value.Instant.{Instant}
use Rattle.literal_order.specs.declared.literal_value.LiteralValue.TheVariants as values
use Rattle.literal_order.specs.declared.literal_value.LiteralReading.{LiteralReading}
use Rattle.literal_order.specs.declared.literal_value.LiteralReading.TheVariants.{IllTyped, Refused, Value}
use Rattle.literal_order.specs.declared.literal_value.ProfileRefusal.TheVariants.{TooManyDigits, YearOutOfRange}

infixl 10 ◌>>=◌
abbrev pub ◌>>=◌ : {A B : Type 0} → Option A → (A → Option B) → Option B
read >>= next = option_and_then next read

-- this character and two digits: their number, and what follows them
abbrev pub field : ℕ → List ℕ → Option (ℕ × List ℕ)
field mark (c ∷ tens ∷ units ∷ rest) =
    if c == mark && is_ascii_digit tens && is_ascii_digit units then Some (10 * (tens - 48) + (units - 48), rest)
    else None
field mark text = None

-- the digits that the text begins with, and what follows them
abbrev pub leading_digits : List ℕ → List ℕ
leading_digits text = take_while is_ascii_digit text

abbrev pub after_digits : List ℕ → List ℕ
after_digits text = drop (prefix_len is_ascii_digit text) text

abbrev pub after_minus : List ℕ → List ℕ
after_minus [] = []
after_minus (c ∷ cs) = if c == 45 then cs else c ∷ cs

abbrev pub begins_with_zero : List ℕ → Bool
begins_with_zero [] = false
begins_with_zero (c ∷ cs) = c == 48

-- four digits, or more with no zero in front
abbrev pub is_year_form : List ℕ → Bool
is_year_form digits = length digits == 4 || (nat_lt 4 (length digits) && not (begins_with_zero digits))

-- the year, where it is 0001 to 9999
abbrev pub year_number : Bool → List ℕ → Option ℕ
year_number negative digits =
    if not negative && length digits == 4 && nat_lt 0 (number digits) then Some (number digits) else None

-- yearFrag, `-`? and the digits, and what follows
unfoldable pub year : List ℕ → Option (Option ℕ × List ℕ)
year text =
    if is_year_form (leading_digits (after_minus text))
    then Some (year_number (is_negative text) (leading_digits (after_minus text)), after_digits (after_minus text))
    else None

abbrev pub is_from_to : ℕ → ℕ → ℕ → Bool
is_from_to low high n = nat_le low n && nat_le n high

-- the number of a day that the calendar has
abbrev pub day_number_of : ℕ → ℕ → ℕ → Option ℕ
day_number_of y month day =
    if is_from_to 1 12 month && is_from_to 1 (days_in_month y month) day
    then Some (day_number y month day) else None

-- a day of the calendar; of a year out of range it is not asked how long its months are
abbrev pub civil_day : Option ℕ → ℕ → ℕ → Option Day
civil_day (Some y) month day = option_map days.Number (day_number_of y month day)
civil_day None month day =
    if is_from_to 1 12 month && is_from_to 1 31 day then Some days.YearOutOfRange else None

-- year, `-`, month, `-`, day
unfoldable pub date : List ℕ → Option (Day × List ℕ)
date text = do
  y ← year text
  m ← field 45 y.1
  d ← field 45 m.1
  day ← civil_day y.0 m.0 d.0
  Some (day, d.1)

-- `.` and digits, if there are any
unfoldable pub fraction : List ℕ → Option (List ℕ × List ℕ)
fraction [] = Some ([], [])
fraction (c ∷ cs) =
    if c == 46 then (if is_empty (leading_digits cs) then None else Some (leading_digits cs, after_digits cs))
    else Some ([], c ∷ cs)

-- nanoseconds, where the digits are nine at most
abbrev pub nanoseconds : List ℕ → Option ℕ
nanoseconds digits = if nat_le (length digits) 9 then Some (fraction_of 9 digits) else None

-- a time of the day, or the end of the day
abbrev pub is_time : ℕ → ℕ → ℕ → List ℕ → Bool
is_time hour minute second digits =
    (nat_le hour 23 && nat_le minute 59 && nat_le second 59)
    || (hour == 24 && minute == 0 && second == 0 && are_zeros digits)

abbrev pub time_of : ℕ → ℕ → ℕ → List ℕ → Option Time
time_of hour minute second digits =
    if is_time hour minute second digits
    then Some (record { seconds = 3600 * hour + 60 * minute + second; nanoseconds = nanoseconds digits }) else None

-- `T`, hour, `:`, minute, `:`, second and its fraction; 24:00:00 is the start of the next day
unfoldable pub time : List ℕ → Option (Time × List ℕ)
time text = do
  h ← field 84 text
  m ← field 58 h.1
  s ← field 58 m.1
  f ← fraction s.1
  clock ← time_of h.0 m.0 s.0 f.0
  Some (clock, f.1)

-- hours and minutes to 14:00, to the end of the text, in minutes
unfoldable pub zone : ℕ → List ℕ → Option ℕ
zone sign text = do
  h ← field sign text
  m ← field 58 h.1
  (if is_empty m.1 && ((nat_le h.0 13 && nat_le m.0 59) || (h.0 == 14 && m.0 == 0)) then Some (60 * h.0 + m.0) else None)

abbrev pub zone_offset : Option ℕ → Option ℕ → Option Offset
zone_offset (Some minutes) west = Some (offsets.East minutes)
zone_offset None (Some minutes) = Some (offsets.West minutes)
zone_offset None None = None

-- nothing, `Z`, or a sign with hours and minutes
unfoldable pub offset : List ℕ → Option Offset
offset text =
    if is_empty text then Some offsets.Absent
    else (if bytes_eq text (codes "Z") then Some (offsets.East 0)
    else zone_offset (zone 43 text) (zone 45 text))

abbrev pub has_offset : Offset → Bool
has_offset offsets.Absent = false
has_offset (offsets.East minutes) = true
has_offset (offsets.West minutes) = true

-- so late that no offset leads before the start of the count
abbrev pub IsAfterFirst : Day → Type 0
IsAfterFirst (days.Number n) = 1 ≤ n
IsAfterFirst days.YearOutOfRange = ⊤

-- at most fourteen hours
abbrev pub IsWithinLimit : Offset → Type 0
IsWithinLimit offsets.Absent = ⊤
IsWithinLimit (offsets.East minutes) = minutes ≤ 840
IsWithinLimit (offsets.West minutes) = minutes ≤ 840

-- local seconds from the start of the year 0, and the same moment at offset 0 (or at none)
abbrev pub local_seconds : ℕ → ℕ → ℕ
local_seconds day seconds = 86_400 * day + seconds

abbrev pub at_zero : Offset → ℕ → ℕ
at_zero offsets.Absent seconds = seconds
at_zero (offsets.East minutes) seconds = seconds - 60 * minutes
at_zero (offsets.West minutes) seconds = seconds + 60 * minutes

abbrev pub instant : ℕ → ℕ → ℕ → Offset → Instant
instant day seconds nanos from = record {
  seconds = at_zero from (local_seconds day seconds);
  nanoseconds = nanos;
  has_offset = has_offset from;
}

abbrev pub date_time_value : Day → Option ℕ → ℕ → Offset → LiteralReading
date_time_value day None seconds from = Refused TooManyDigits
date_time_value days.YearOutOfRange (Some nanos) seconds from = Refused YearOutOfRange
date_time_value (days.Number n) (Some nanos) seconds from = Value (values.DateTime (instant n seconds nanos from))

abbrev pub date_time_form : List ℕ → Option LiteralReading
date_time_form text = do
  d ← date text
  t ← time d.1
  from ← offset t.1
  Some (date_time_value d.0 t.0.nanoseconds t.0.seconds from)

abbrev pub read_or_ill_typed : Option LiteralReading → LiteralReading
read_or_ill_typed None = IllTyped
read_or_ill_typed (Some reading) = reading

-- dateTime: its form, then the limit of digits, then the years
unfoldable pub date_time_reading : List ℕ → LiteralReading
date_time_reading text = read_or_ill_typed (date_time_form text)

abbrev pub date_value : Day → Offset → LiteralReading
date_value days.YearOutOfRange from = Refused YearOutOfRange
date_value (days.Number n) from = Value (values.Date (instant n 0 0 from))

abbrev pub date_form : List ℕ → Option LiteralReading
date_form text = do
  d ← date text
  from ← offset d.1
  Some (date_value d.0 from)

-- date: its form, then the years; its value is its first instant
unfoldable pub date_reading : List ℕ → LiteralReading
date_reading text = read_or_ill_typed (date_form text)

-- A day, `T24:00:00` with a fraction of zeros, if any, and an offset, if any, are the start of the next day (3.3.7.1).
abbrev pub EndsAtNext : Type 0
EndsAtNext = (text rest zeros zone : List ℕ) (day : ℕ) (from : Offset) → date text ≡ Some (days.Number day, codes "T24:00:00" ++ rest) → fraction rest ≡ Some (zeros, zone) → are_zeros zeros ≡ true → length zeros ≤ 9 → offset zone ≡ Some from
    → date_time_reading text ≡ Value (values.DateTime (instant (day + 1) 0 0 from))
