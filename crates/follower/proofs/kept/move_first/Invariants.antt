use Rattle.std.proofs.Common.{◌≡◌, ◌++◌, drop, take}
use Rattle.std.specs.Vec.{vec_capacity}
use Rattle.follower.proofs.kept.move_first.Given as goal

abbrev pub invariant-loop : goal.invariant-loop
invariant-loop l = (l.kept.items ≡ drop l.counter l.fn.kept.items) × (l.applied.items ≡ l.fn.applied.items ++ take l.counter l.fn.kept.items) × (vec_capacity l.applied ≡ vec_capacity l.fn.applied)
