use Rattle.std.proofs.Common.{◌≡◌, pos, ◌+ℤ◌, w8, w16, ap, sym, ◌∙◌, arith}
use Rattle.std.proofs.lemmas.Int.{to_z_pos}
use Rattle.jiff.specs.Words.{IsYmd, epoch_day}
use Rattle.literal_order.specs.Calendar.{day_number}
use Rattle.literal_order.proofs.CalendarLemmas.{after_first, date_number, date_there, cast_day, small_day}
use Rattle.literal_order.proofs.date_time.day_number.Goals as goal

-- the date has the parts that were asked for
parts : (c : goal.After-to_unix_epoch_day) → IsYmd (pos c.args.year) (pos c.args.month) (pos c.args.day) c.in-Ok.date
parts c =
    let year = to_z_pos w16 c.args.year (omega (arith, c.requires.year_to)) in
    let month = to_z_pos w8 c.args.month (omega (arith, c.requires.month_in)) in
    let day = to_z_pos w8 c.args.day (omega (arith, c.requires.day_in)) in
    rw (year, month, day) at c.in-Ok.ensures.value

counted : (c : goal.After-to_unix_epoch_day) → c.to_unix_epoch_day.result +ℤ pos 719_528 ≡ pos (day_number c.args.year c.args.month c.args.day)
counted c =
    let same : c.to_unix_epoch_day.result ≡ epoch_day c.in-Ok.date = c.to_unix_epoch_day.ensures.value ∙ ap epoch_day c.to_plain.ensures in
    rw same (date_number c.in-Ok.date _ _ _ (parts c))

pub overflow_cast-result : goal.overflow_cast-result
overflow_cast-result c =
    let cast = cast_day _ _ (counted c) c.to_unix_epoch_day.ensures.bound in
    let small = small_day _ _ (counted c) c.to_unix_epoch_day.ensures.bound in
    rw cast (tt, omega arith)

pub returns-in-Ok-clause-value : goal.returns-in-Ok-clause-value
returns-in-Ok-clause-value c =
    let cast = cast_day _ _ (counted c) c.to_unix_epoch_day.ensures.bound in
    rw cast (sym (date_there c.in-Ok.date _ _ _ (parts c)))

pub returns-in-Ok-clause-after_first : goal.returns-in-Ok-clause-after_first
returns-in-Ok-clause-after_first c =
    let cast = cast_day _ _ (counted c) c.to_unix_epoch_day.ensures.bound in
    rw cast (after_first c.args.year c.args.month c.args.day c.requires.year_from)
