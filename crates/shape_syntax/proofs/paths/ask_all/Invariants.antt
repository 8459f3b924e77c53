use Rattle.std.proofs.Common.{length}
use Rattle.shape_syntax.proofs.Asked.{AreWaiting}
use Rattle.shape_syntax.proofs.paths.ask_all.Given as goal

abbrev pub invariant-loop-waiting : goal.invariant-loop-waiting
invariant-loop-waiting l = AreWaiting l.graph l.known.paths.keys l.known.lists.keys l.waiting

abbrev pub decreases-loop-waiting : goal.decreases-loop-waiting
decreases-loop-waiting l = length l.waiting
