use Rattle.std.proofs.Common.{◌≡◌, ◌++◌, length, reverse}
use Rattle.replica.proofs.Taking.{left}
use Rattle.replica.proofs.history.entries_back.Given as goal

abbrev pub invariant-loop-rest : goal.invariant-loop-rest
invariant-loop-rest l = l.entries.items ++ reverse (left l.rest) ≡ reverse l.fn.history

abbrev pub decreases-loop-rest : goal.decreases-loop-rest
decreases-loop-rest l = length (left l.rest)
