use Rattle.std.proofs.Common.{length}
use Rattle.evidence_verdict.proofs.Searching.{IsHalf}
use Rattle.evidence_verdict.proofs.exact.is_listed.Given as goal

abbrev pub invariant-loop-rest : goal.invariant-loop-rest
invariant-loop-rest l = IsHalf l.looks l.rest l.look

abbrev pub decreases-loop-rest : goal.decreases-loop-rest
decreases-loop-rest l = length l.rest
