use Rattle.std.proofs.Common.{◌≡◌, drop}
use Rattle.literal_order.specs.Digits
use Rattle.literal_order.proofs.digits.are_digits.Given as goal

abbrev pub invariant-loop-byte : goal.invariant-loop-byte
invariant-loop-byte l = Digits.are_digits (drop l.byte-index l.text) ≡ Digits.are_digits l.text
