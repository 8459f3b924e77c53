use Rattle.std.proofs.Common.{◌≡◌, arith}
use Rattle.std.proofs.lemmas.Grind.{common_steps}
use Rattle.literal_order.proofs.DigitLemmas.{are_digits_leading}
use Rattle.literal_order.specs.Dates.{leading_digits}
use Rattle.literal_order.proofs.date_time.split_digits.Goals as goal

pub returns-then-not-is_ascii_digit-clause-are_digits : goal.returns-then-not-is_ascii_digit-clause-are_digits
returns-then-not-is_ascii_digit-clause-are_digits c =
    let digits : c.split_at.result.0.now ≡ leading_digits c.args.text.now = grind (arith, common_steps) in
    rw digits (are_digits_leading c.args.text.now)

pub returns-clause-are_digits : goal.returns-clause-are_digits
returns-clause-are_digits c =
    let digits : c.split_at-2.result.0.now ≡ leading_digits c.args.text.now = grind (arith, common_steps) in
    rw digits (are_digits_leading c.args.text.now)
