use Rattle.std.proofs.Common.{◌≡◌, ◌++◌, length}
use Rattle.commit_core.specs.RestoredParts.{triples_in}
use Rattle.commit_core.proofs.recorded.triples_of.Given as goal

abbrev pub invariant-loop-rest : goal.invariant-loop-rest
invariant-loop-rest l = l.ids.items ++ triples_in l.rest ≡ triples_in l.numbers

abbrev pub decreases-loop-rest : goal.decreases-loop-rest
decreases-loop-rest l = length l.rest
