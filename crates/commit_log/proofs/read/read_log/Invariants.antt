use Rattle.std.proofs.Common.{length}
use Rattle.commit_log.specs.Format.{BeginsWith}
use Rattle.commit_log.proofs.read.read_log.Given as goal

abbrev pub invariant-loop-rest : goal.invariant-loop-rest
invariant-loop-rest l = BeginsWith l.image l.records.items l.rest

abbrev pub decreases-loop-rest : goal.decreases-loop-rest
decreases-loop-rest l = length l.rest
