use Rattle.std.proofs.Common.{◌≡◌, Bool, Option, Some, None, [], sym, ap, subst}
use Rattle.std.specs.Prelude.{MatchBool}
use Rattle.store_model.specs.declared.commit.Transaction.{Transaction}
use Rattle.store_model.specs.Store.{HasChange}
use Rattle.session_transaction.specs.declared.transaction.OpenTransaction.{OpenTransaction}
use Rattle.session_transaction.specs.Checks.{KeepsIn}
use Rattle.session_transaction.specs.Transactions.{FitsState, plain, plain_in}
use Rattle.session_player.specs.Ready.{CommitsWith, IsReady}
use Rattle.session_player.proofs.Playing.{fits_after, performs_commit}
use Rattle.session_player.proofs.perform.commit_open.Goals as goal

pub take_head-requires-clause-fits : goal.take_head-requires-clause-fits
take_head-requires-clause-fits g c κs within =
    let ready : IsReady c.args.core.now c.args.session (Some (plain c.in-Some.open)) = subst (λ (t : Option OpenTransaction). IsReady c.args.core.now c.args.session (plain_in t)) c.in-Some.is c.requires in
    ready.current.fits

pub commit_reply-requires-clause-fits : goal.commit_reply-requires-clause-fits
commit_reply-requires-clause-fits g c κs within =
    let ready : IsReady c.args.core.now c.args.session (Some (plain c.in-Some.open)) = subst (λ (t : Option OpenTransaction). IsReady c.args.core.now c.args.session (plain_in t)) c.in-Some.is c.requires in
    let same : c.take_head.new.open.transaction ≡ c.in-Some.open.transaction = ap (λ w. w.transaction) c.in_ok-take_head.ensures.same in
    subst (λ (x : Transaction). FitsState x c.take_head.new.core.state) (sym same) (fits_after _ _ _ _ ready.current.fits c.in_ok-take_head.ensures.head)

pub commit_reply-requires-clause-change : goal.commit_reply-requires-clause-change
commit_reply-requires-clause-change g c κs within =
    let x = c.in-Some.open.transaction in
    let some : HasChange x.net x.staged = subst (λ (b : Bool). MatchBool b ((x.net ≡ []) × (x.staged ≡ None)) (HasChange x.net x.staged)) c.if-only_reads.false c.only_reads.ensures in
    let same : c.take_head.new.open.transaction ≡ x = ap (λ w. w.transaction) c.in_ok-take_head.ensures.same in
    subst (λ (y : Transaction). HasChange y.net y.staged) (sym same) some

pub commit_reply-requires-clause-kept : goal.commit_reply-requires-clause-kept
commit_reply-requires-clause-kept g c κs within =
    let same : c.take_head.new.open.transaction ≡ c.in-Some.open.transaction = ap (λ w. w.transaction) c.in_ok-take_head.ensures.same in
    subst (λ (y : Transaction). KeepsIn c.take_head.new.core.limits c.take_head.new.core.start c.take_head.new.core.history y.net c.take_head.new.open.checked) (sym same) c.in_ok-take_head.ensures.kept

pub returns : goal.returns
returns g c =
    let ready : IsReady c.args.core.now c.args.session (Some (plain c.in-Some.open)) = subst (λ (t : Option OpenTransaction). IsReady c.args.core.now c.args.session (plain_in t)) c.in-Some.is c.requires in
    let x = c.in-Some.open.transaction in
    let some : HasChange x.net x.staged = subst (λ (b : Bool). MatchBool b ((x.net ≡ []) × (x.staged ≡ None)) (HasChange x.net x.staged)) c.if-only_reads.false c.only_reads.ensures in
    let same : c.take_head.new.open.transaction ≡ x = ap (λ w. w.transaction) c.in_ok-take_head.ensures.same in
    let reply : CommitsWith c.args.session c.take_head.new.core c.commit_reply.new.core x c.in_ok-reply.reply = subst (λ (y : Transaction). CommitsWith c.args.session c.take_head.new.core c.commit_reply.new.core y c.in_ok-reply.reply) same c.in_ok-reply.ensures in
    rw c.in-Some.is (performs_commit _ _ _ _ (plain c.in-Some.open) _ _ _ reply.verdict _ c.in_ok-reply.reply ready some c.in_ok-take_head.ensures.head.step reply.step (λ cs. reply.told c.in-Some.open.snap.graph c.in-Some.open.snap.shapes cs _) reply.sound c.in_ok-push.ensures.ok)
