use Rattle.std.proofs.Common.{length}
use Rattle.shape_references.proofs.Asked.{AreWaiting}
use Rattle.shape_references.proofs.leading.ask_all.Given as goal

abbrev pub invariant-loop-waiting : goal.invariant-loop-waiting
invariant-loop-waiting l = AreWaiting l.graph l.goal l.known.keys l.waiting

abbrev pub decreases-loop-waiting : goal.decreases-loop-waiting
decreases-loop-waiting l = length l.waiting
