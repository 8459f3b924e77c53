use Rattle.std.proofs.Common.{◌≡◌, ◌++◌, drop, take}
use Rattle.follower.specs.Followed.{placed}
use Rattle.follower.proofs.kept.place_for.Given as goal

abbrev pub invariant-loop-place : goal.invariant-loop-place
invariant-loop-place l = placed l.next l.kept ≡ take l.place l.kept ++ placed l.next (drop l.place l.kept)
