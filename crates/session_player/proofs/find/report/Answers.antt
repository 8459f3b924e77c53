use Rattle.std.proofs.Common.{Option, subst}
use Rattle.session_transaction.specs.declared.transaction.OpenTransaction.{OpenTransaction}
use Rattle.session_transaction.specs.Transactions.{plain_in}
use Rattle.session_player.specs.Ready.{IsReady}
use Rattle.session_player.proofs.Playing.{performs_report}
use Rattle.session_player.proofs.find.report.Goals as goal

pub returns : goal.returns
returns c =
    let ready = subst (λ (o : Option OpenTransaction). IsReady c.args.core.now c.args.session (plain_in o)) c.in-Some.is c.requires in
    rw c.in-Some.is (performs_report c.args.session c.args.core.now c.in-Some.open c.in_ok-report.report c.args.replies.now _ ready c.in_ok-report.ensures c.in_ok-push-2.ensures.ok)
