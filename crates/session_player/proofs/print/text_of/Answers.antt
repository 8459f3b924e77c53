use Rattle.std.proofs.Common.{string_bytes}
use Rattle.session_player.proofs.Printing.{one_session}
use Rattle.session_player.proofs.print.text_of.Goals as goal

pub loop-i-preserved : goal.loop-i-preserved
loop-i-preserved c =
    let s = c.in_ok-push_session.ensures in
    one_session c.args.run.now.replies.items c.loop-i.i c.replies-item.result (string_bytes c.loop-i.out) (string_bytes c.push_session.new.out) s.0 (rw c.deref-replies-items.ensures.value at c.loop-i-test.true)
    (rw c.deref-replies-items.ensures.value at c.replies-item.is) c.loop-i.invariant (rw c.as_slice.ensures at s.1) s.2
