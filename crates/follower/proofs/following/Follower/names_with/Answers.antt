use Rattle.std.proofs.Common.{sym, ap}
use Rattle.follower.specs.Followed.{Followed}
use Rattle.follower.proofs.Names.{names_done}
use Rattle.follower.proofs.following.Follower.names_with.Goals as goal

pub returns : goal.returns
returns c =
    names_done c.args.self.now c.args.next.now c.self.inside.names c.in_ok-names.names c.name_all.new.self c.deref.result.now c.in_ok-terms.terms.items c.in_ok-name_all.field-0.items
    (ap (λ (s : Followed). s.terms) (sym c.self.view_is)) c.self.invariant.limit c.in_ok-names.ensures c.deref.ensures.value c.in_ok-terms.ensures
    c.in_ok-name_all.ensures.ok c.in_ok-name_all.ensures.numbers c.in_ok-name_all.ensures.fits
