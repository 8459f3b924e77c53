use Rattle.session_player.specs.Progress.{OpensSessions}
use Rattle.session_player.proofs.run.open_all.Given as goal

abbrev pub invariant-loop-i : goal.invariant-loop-i
invariant-loop-i l = OpensSessions l.fn.core l.core l._i
