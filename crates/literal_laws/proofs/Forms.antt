-- What is read as a date or a dateTime is of the pattern, and what is of the pattern is read.
use Rattle.std.proofs.Common.{◌≡◌, ◌≢◌, ◌↔◌, ◌∙◌, ℕ, List, ◌∷◌, ◌++◌, Option, Some, None, refl, sym, ap}
use Rattle.std.proofs.lemmas.Option.{option_and_then_some}
use Rattle.literal_order.specs.Dates.{date, time, offset, date_form, date_value, date_reading, date_time_form, date_time_value, date_time_reading, read_or_ill_typed, ◌>>=◌}
use Rattle.literal_order.specs.declared.date_time.Day.{Day}
use Rattle.literal_order.specs.declared.date_time.Day.TheVariants as days
use Rattle.literal_order.specs.declared.date_time.Offset.{Offset}
use Rattle.literal_order.specs.declared.literal_value.LiteralReading.{LiteralReading}
use Rattle.literal_order.specs.declared.literal_value.LiteralReading.TheVariants.{IllTyped}
use Rattle.literal_laws.specs.DateForms.{IsDateForm, IsDateTimeForm}
use Rattle.literal_laws.proofs.Days.{date_from, date_to}
use Rattle.literal_laws.proofs.Times.{time_from, time_to, offset_from, offset_to, zone_ends_time}

-- what is well-formed was read
was_read : (o : Option LiteralReading) → read_or_ill_typed o ≢ IllTyped → (r : LiteralReading) × (o ≡ Some r)
was_read None h = absurd (h refl)
was_read (Some r) h = (r, refl)

date_value_typed : (d : Day) (from : Offset) → date_value d from ≢ IllTyped
date_value_typed (days.Number n) from e = cc
date_value_typed days.YearOutOfRange from e = cc

date_time_value_typed : (d : Day) (nanos : Option ℕ) (seconds : ℕ) (from : Offset) → date_time_value d nanos seconds from ≢ IllTyped
date_time_value_typed d None seconds from e = cc
date_time_value_typed (days.Number n) (Some nanos) seconds from e = cc
date_time_value_typed days.YearOutOfRange (Some nanos) seconds from e = cc

from_date : (text : List ℕ) (r : LiteralReading) → date_form text ≡ Some r → IsDateForm text
from_date text r h =
    option_and_then_some _ (date text) r h λ d at_day then_zone.
    option_and_then_some _ (offset d.1) r then_zone λ from at_zone last.
    let parts = date_from text d.0 d.1 at_day in
    record { day = parts.0; zone = d.1; written = parts.1; is_day = parts.2; is_zone = offset_from d.1 from at_zone }

to_date : (text : List ℕ) → IsDateForm text → date_reading text ≢ IllTyped
unfolding date_reading
to_date text h ill =
    let day = date_to h.day h.zone h.is_day in
    let from = offset_to h.zone h.is_zone in
    let read : date_form text ≡ Some (date_value day.0 from.0) =
    ap date_form h.written ∙ ap (λ o. o >>= λ d. offset d.1 >>= λ from. Some (date_value d.0 from)) day.1 ∙ ap (λ o. o >>= λ from. Some (date_value day.0 from)) from.1 in
    date_value_typed day.0 from.0 (sym (ap read_or_ill_typed read) ∙ ill)

pub date_forms : (text : List ℕ) → (date_reading text ≢ IllTyped) ↔ IsDateForm text
unfolding date_reading
date_forms text = (λ h. let read = was_read (date_form text) h in from_date text read.0 read.1, to_date text)

from_date_time : (text : List ℕ) (r : LiteralReading) → date_time_form text ≡ Some r → IsDateTimeForm text
from_date_time text r h =
    option_and_then_some _ (date text) r h λ d at_day then_time.
    option_and_then_some _ (time d.1) r then_time λ t at_time then_zone.
    option_and_then_some _ (offset t.1) r then_zone λ from at_zone last.
    let parts = date_from text d.0 d.1 at_day in
    let clock = time_from d.1 t.0 t.1 at_time in
    record { day = parts.0; time = clock.0; zone = t.1; written = parts.1 ∙ ap (λ x. parts.0 ++ x) clock.1; is_day = parts.2; is_time = clock.2; is_zone = offset_from t.1 from at_zone }

to_date_time : (text : List ℕ) → IsDateTimeForm text → date_time_reading text ≢ IllTyped
unfolding date_time_reading
to_date_time text h ill =
    let day = date_to h.day (84 ∷ (h.time ++ h.zone)) h.is_day in
    let clock = time_to h.time h.zone h.is_time (zone_ends_time h.zone h.is_zone) in
    let from = offset_to h.zone h.is_zone in
    let read : date_time_form text ≡ Some (date_time_value day.0 clock.0.nanoseconds clock.0.seconds from.0) =
    ap date_time_form h.written
    ∙ ap (λ o. o >>= λ d. time d.1 >>= λ t. offset t.1 >>= λ from. Some (date_time_value d.0 t.0.nanoseconds t.0.seconds from)) day.1
    ∙ ap (λ o. o >>= λ t. offset t.1 >>= λ from. Some (date_time_value day.0 t.0.nanoseconds t.0.seconds from)) clock.1
    ∙ ap (λ o. o >>= λ from. Some (date_time_value day.0 clock.0.nanoseconds clock.0.seconds from)) from.1 in
    date_time_value_typed day.0 clock.0.nanoseconds clock.0.seconds from.0 (sym (ap read_or_ill_typed read) ∙ ill)

pub date_time_forms : (text : List ℕ) → (date_time_reading text ≢ IllTyped) ↔ IsDateTimeForm text
unfolding date_time_reading
date_time_forms text = (λ h. let read = was_read (date_time_form text) h in from_date_time text read.0 read.1, to_date_time text)
