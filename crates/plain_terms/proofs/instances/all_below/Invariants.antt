use Rattle.std.proofs.Common.{◌-◌, ◌+◌, length}
use Rattle.plain_terms.proofs.Classes.{AreBelow}
use Rattle.plain_terms.proofs.instances.all_below.Given as goal

abbrev pub invariant-loop-below : goal.invariant-loop-below
invariant-loop-below l = AreBelow l.graph l.predicate l.node l.found

abbrev pub decreases-loop-below : goal.decreases-loop-below
decreases-loop-below l = length l.graph + 1 - length l.found
