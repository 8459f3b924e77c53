use Rattle.std.proofs.Common.{◌≡◌, ◌++◌, ℕ, List, codes, string_bytes, take}
use Rattle.std.specs.Fmt.{decimal}
use Rattle.session_model.specs.Print.{AreReplyLines, line}
use Rattle.session_player.proofs.print.push_session.Given as goal

abbrev pub invariant-loop-reply : goal.invariant-loop-reply
invariant-loop-reply l = (lines : List ℕ) × AreReplyLines (take l.reply-index l.replies) lines × (string_bytes l.out ≡ string_bytes l.fn.out ++ (line (codes "session " ++ decimal l.fn.number) ++ lines))
