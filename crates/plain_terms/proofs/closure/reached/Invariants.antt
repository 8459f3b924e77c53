use Rattle.std.proofs.Common.{◌-◌, ◌+◌, length}
use Rattle.plain_terms.proofs.Reaches.{AreReached}
use Rattle.plain_terms.proofs.closure.reached.Given as goal

abbrev pub invariant-loop-next : goal.invariant-loop-next
invariant-loop-next l = AreReached l.pairs l.node l.found

abbrev pub decreases-loop-next : goal.decreases-loop-next
decreases-loop-next l = length l.pairs + 1 - length l.found
