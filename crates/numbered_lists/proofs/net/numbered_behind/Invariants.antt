use Rattle.std.proofs.Common.{◌≡◌, map, take}
use Rattle.numbered_lists.specs.Appending.{numbered_as, shifted}
use Rattle.numbered_lists.proofs.net.numbered_behind.Given as goal

abbrev pub invariant-loop-ids : goal.invariant-loop-ids
invariant-loop-ids l = l.more.items ≡ map (λ i. numbered_as l.removes (shifted l.count i)) (take l.ids-index l.triples)
