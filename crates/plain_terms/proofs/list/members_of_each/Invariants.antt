use Rattle.std.proofs.Common.{take}
use Rattle.plain_terms.specs.Finds.{Finds, IsListed, WithSome}
use Rattle.plain_terms.proofs.list.members_of_each.Given as goal

abbrev pub invariant-loop-head : goal.invariant-loop-head
invariant-loop-head l = Finds (WithSome (take l.head-index l.heads) (IsListed l.graph)) l.found.items
