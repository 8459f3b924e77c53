use Rattle.std.proofs.Common.{◌≡◌, ◌+◌, drop, nat_eq}
use Rattle.std.specs.List.{position_or_len}
use Rattle.literal_order.proofs.numeral.split_point.Given as goal

abbrev pub invariant-loop-index : goal.invariant-loop-index
invariant-loop-index l = l.index + position_or_len (λ c. nat_eq c 46) (drop l.index l.text) ≡ position_or_len (λ c. nat_eq c 46) l.text
