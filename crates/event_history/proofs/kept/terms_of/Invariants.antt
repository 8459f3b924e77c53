use Rattle.std.proofs.Common.{◌≡◌, take}
use Rattle.event_history.specs.Named.{terms_at}
use Rattle.event_history.proofs.kept.terms_of.Given as goal

abbrev pub invariant-loop-number : goal.invariant-loop-number
invariant-loop-number l = l.terms.items ≡ terms_at l.names.terms (take l.number-index l.numbers)
