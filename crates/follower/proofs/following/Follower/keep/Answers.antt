use Rattle.std.proofs.Common.{◌+◌, ◌<◌, length, sym, subst}
use Rattle.follower.specs.Followed.{Followed, IsTaken}
use Rattle.follower.specs.Versions.{AreNamesWith}
use Rattle.follower.proofs.Stays.{kept_on}
use Rattle.follower.proofs.following.Follower.keep.Goals as goal

pub invariant_of-self-2 : goal.invariant_of-self-2
invariant_of-self-2 c =
    let next = c.args.next in
    kept_on c.self.inside.applied.items c.self.inside.kept.items c.put.new.kept.items c.self.inside.versions.items c.self.inside.names c.args.names next c.self.invariant
    (subst (λ (s : Followed). IsTaken s next) (sym c.self.view_is) c.requires.taken) (subst (λ (s : Followed). length s.applied + 1 < next.number) (sym c.self.view_is) c.requires.ahead)
    (subst (λ (s : Followed). AreNamesWith s next c.args.names) (sym c.self.view_is) c.requires.names) c.in_ok-put.ensures.ok
