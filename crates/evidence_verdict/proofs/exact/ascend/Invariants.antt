use Rattle.std.proofs.Common.{length}
use Rattle.std.specs.Prelude.{◌↔◌}
use Rattle.collections.specs.Ordered.{IsAscending}
use Rattle.evidence_blocks.specs.Blocks.{looks_in}
use Rattle.evidence_blocks.specs.LookOrder.{look_cmp}
use Rattle.evidence_verdict.proofs.exact.ascend.Given as goal

abbrev pub invariant-loop-rest : goal.invariant-loop-rest
invariant-loop-rest l = IsAscending look_cmp (looks_in l.looks) ↔ IsAscending look_cmp (looks_in l.rest)

abbrev pub decreases-loop-rest : goal.decreases-loop-rest
decreases-loop-rest l = length l.rest
