use Rattle.std.proofs.Common.{map, take}
use Rattle.follow_command.specs.Order.{NameRecords}
use Rattle.follow_command.proofs.order.numbers_at.Given as goal

abbrev pub invariant-loop-place : goal.invariant-loop-place
invariant-loop-place l = NameRecords l.count (map (λ p. p.now) (take l.place-index l.places)) l.numbers
