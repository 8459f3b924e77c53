use Rattle.std.proofs.Common.{Option, subst}
use Rattle.session_transaction.specs.declared.transaction.OpenTransaction.{OpenTransaction}
use Rattle.session_transaction.specs.Transactions.{plain_in}
use Rattle.session_player.specs.Ready.{IsReady}
use Rattle.session_player.proofs.Playing.{performs_select}
use Rattle.session_player.proofs.find.select.Goals as goal

pub returns : goal.returns
returns c =
    let ready = subst (λ (o : Option OpenTransaction). IsReady c.args.core.now c.args.session (plain_in o)) c.in-Some.is c.requires in
    rw c.in-Some.is
    (performs_select c.args.session c.args.core.now c.in-Some.open c.answer_select.new.transaction c.args.patterns.now c.in_ok-reply.reply c.args.replies.now _ ready (rw c.as_slice.ensures at c.in_ok-reply.ensures.recorded) (rw c.as_slice.ensures at c.in_ok-reply.ensures.reply) c.in_ok-push-2.ensures.ok)
