use Rattle.std.proofs.Common.{Some, sym, ap, ◌∙◌}
use Rattle.session_transaction.specs.Transactions.{plain, plain_in}
use Rattle.session_player.proofs.Seats.{fits_now, version_taken}
use Rattle.session_player.proofs.player.take_version.Goals as goal

pub take_head-requires-clause-fits : goal.take_head-requires-clause-fits
take_head-requires-clause-fits g c κs within =
    let t = c.take.ensures in
    fits_now _ _ _ (plain c.in-Some.open) c.player.view_is c.requires.ready (ap plain_in (sym t.value ∙ c.in-Some.is))

pub returns : goal.returns
returns g c =
    let e = c.player.view_is in
    let t = c.take.ensures in
    let h = c.in_ok-take_head.ensures in
    version_taken _ _ _ _ _ (plain c.in-Some.open) _ _ e c.requires.opened c.requires.ready c.requires.free c.requires.next h.head (ap plain_in (sym t.value ∙ c.in-Some.is)) (ap Some h.same) h.kept
