use Rattle.std.proofs.Common.{ℕ, take}
use Rattle.std.specs.Prelude.{◌⊎◌, ◌↔◌}
use Rattle.std.specs.List.{Contains}
use Rattle.shape_eval.proofs.asked.add_places.Given as goal

abbrev pub invariant-loop-place : goal.invariant-loop-place
invariant-loop-place l = (n : ℕ) → Contains l.places.items n ↔ (Contains l.fn.places.items n ⊎ Contains (take l.place-index l.more) n)
