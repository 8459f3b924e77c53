use Rattle.std.proofs.Common.{◌≡◌, ◌<◌, ◌^◌, drop, true}
use Rattle.literal_order.specs.Digits
use Rattle.literal_order.proofs.digits.number.Given as goal

-- what is left of the digits, after the number so far, gives the whole number
abbrev pub invariant-loop-digit : goal.invariant-loop-digit
invariant-loop-digit l =
    (Digits.number_after l.number (drop l.digit-index l.digits) ≡ Digits.number l.digits) × (Digits.are_digits (drop l.digit-index l.digits) ≡ true) × (l.number < 10 ^ l.digit-index)
