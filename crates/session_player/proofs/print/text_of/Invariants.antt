use Rattle.std.proofs.Common.{string_bytes, take}
use Rattle.session_model.specs.Print.{AreSessionLines}
use Rattle.session_player.proofs.print.text_of.Given as goal

abbrev pub invariant-loop-i : goal.invariant-loop-i
invariant-loop-i l = AreSessionLines 1 (take l.i l.run.replies.items) (string_bytes l.out)
