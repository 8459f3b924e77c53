use Rattle.std.proofs.Common.{◌++◌, codes, string_bytes}
use Rattle.std.specs.Fmt.{decimal}
use Rattle.session_model.specs.Print.{line}
use Rattle.session_player.proofs.Printing.{one_reply}
use Rattle.session_player.proofs.print.push_session.Goals as goal

pub loop-reply-preserved : goal.loop-reply-preserved
loop-reply-preserved c =
    let h = c.loop-reply.invariant in
    let one = c.in_ok-push_reply.ensures in
    one_reply c.args.replies.now c.loop-reply.reply-index c.reply-item.result (string_bytes c.args.out.now) (string_bytes c.loop-reply.out) (string_bytes c.push_reply.new.out) (line (codes "session " ++ decimal c.args.number)) h.0 one.0 c.loop-reply-test.true
    c.reply-item.is h.1 h.2 one.1 one.2
