use Rattle.std.proofs.Common.{take}
use Rattle.shape_references.specs.Asking.{ArePending}
use Rattle.shape_references.proofs.loops.push_subjects.Given as goal

abbrev pub invariant-loop-triple : goal.invariant-loop-triple
invariant-loop-triple l = ArePending (take l.triple-index l.graph) l.pending
