use Rattle.std.proofs.Common.{◌≡◌, [], length, sym, ap, arith, rules}
use Rattle.std.specs.Vec.{vec_len}
use Rattle.follower.specs.Followed.{Followed}
use Rattle.follower.proofs.Sequences.{as_many}
use Rattle.follower.proofs.Stays.{version_seen}
use Rattle.follower.proofs.following.Follower.version_at.Goals as goal

pub index-requires : goal.index-requires
index-requires c =
    let many = as_many c.self.inside.names.terms [] [] c.self.inside.applied.items c.self.inside.versions.items c.self.invariant.each in
    let size = ap (λ (s : Followed). length s.applied) (sym c.self.view_is) in
    let len : vec_len c.self.inside.versions ≡ length c.self.inside.versions.items = search rules in
    let within = c.requires in
    let some = c.if-version-eq0.false in
    omega (arith, many, size, len, within, some)

pub returns : goal.returns
returns c =
    let some = c.if-version-eq0.false in
    version_seen c.args.self.now c.self.inside.applied.items c.self.inside.kept.items c.self.inside.versions.items c.self.inside.names c.args.version c.index.result.now c.in_ok-found.found
    (sym c.self.view_is) c.self.invariant (omega (arith, some)) c.requires c.index.ensures c.in_ok-found.ensures
