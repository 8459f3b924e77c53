use Rattle.std.proofs.Common.{length}
use Rattle.reference_totals.proofs.Asked.{AreWaiting}
use Rattle.reference_totals.proofs.rounds.ask_all.Given as goal

abbrev pub invariant-loop-waiting : goal.invariant-loop-waiting
invariant-loop-waiting l = AreWaiting l.places l.most l.known l.waiting

abbrev pub decreases-loop-waiting : goal.decreases-loop-waiting
decreases-loop-waiting l = length l.waiting
