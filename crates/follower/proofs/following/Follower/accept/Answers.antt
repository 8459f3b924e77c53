use Rattle.std.proofs.Common.{◌<◌, arith, inl}
use Rattle.follower.specs.Followed.{version_of}
use Rattle.follower.proofs.Placed.{new_behind}
use Rattle.follower.proofs.following.Follower.accept.Goals as goal

pub apply-requires-clause-follows : goal.apply-requires-clause-follows
apply-requires-clause-follows c =
    let behind : version_of c.args.self.now < c.args.next.number = new_behind c.args.self.now c.args.next c.recall_kept.ensures c.requires.new (λ none. c.requires.inside (inl none)) in
    let near = c.if-next-version.false in
    let version = c.version-version.ensures.number in
    omega (arith, behind, near, version)
