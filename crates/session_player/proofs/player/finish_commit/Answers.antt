use Rattle.std.proofs.Common.{Option, drop, refl, sym, ap, ◌∙◌, subst}
use Rattle.commit_core.specs.declared.checked.CheckedNet.{CheckedNet}
use Rattle.session_transaction.specs.Checks.{KeepsIn, checked_in}
use Rattle.session_transaction.specs.Transactions.{plain, plain_in}
use Rattle.session_player.specs.Players.{Player}
use Rattle.session_player.proofs.Seats.{commit_taken, fits_now, popped, ready_held}
use Rattle.session_player.proofs.player.finish_commit.Goals as goal

pub commit_reply-requires-clause-fits : goal.commit_reply-requires-clause-fits
commit_reply-requires-clause-fits g c κs within =
    let t = c.take.ensures in
    fits_now _ _ _ (plain c.in-Some.open) c.player.view_is c.requires.ready (ap plain_in (sym t.value ∙ c.in-Some.is))

pub commit_reply-requires-clause-change : goal.commit_reply-requires-clause-change
commit_reply-requires-clause-change g c κs within =
    let t = c.take.ensures in
    (ready_held _ _ _ _ (plain c.in-Some.open) c.player.view_is c.requires.ready c.requires.held (popped _ _ c.requires.some refl) (ap plain_in (sym t.value ∙ c.in-Some.is))).0

pub commit_reply-requires-clause-kept : goal.commit_reply-requires-clause-kept
commit_reply-requires-clause-kept g c κs within =
    let t = c.take.ensures in
    let s = c.args.core.now in
    subst (λ (o : Option CheckedNet). KeepsIn s.limits s.start s.history c.in-Some.open.transaction.net o) (ap checked_in (sym t.value ∙ c.in-Some.is))
    (ready_held _ _ _ _ (plain c.in-Some.open) c.player.view_is c.requires.ready c.requires.held (popped _ _ c.requires.some refl) (ap plain_in (sym t.value ∙ c.in-Some.is))).1

pub returns : goal.returns
returns g c =
    let e = c.player.view_is in
    let t = c.take.ensures in
    let next = popped _ c.pop_front.new.self.items c.requires.some (c.pop_front.ensures.rest ∙ ap (λ (x : Player). drop 1 x.commands) e) in
    commit_taken _ _ _ _ _ _ _ _ _ _ _ e c.requires.opened c.requires.ready c.requires.held next (ap plain_in (sym t.value ∙ c.in-Some.is)) (ap plain_in t.after) c.in_ok-push.ensures.ok (ap checked_in t.after) c.in_ok-reply.ensures
