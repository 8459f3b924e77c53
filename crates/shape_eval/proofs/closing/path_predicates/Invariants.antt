use Rattle.std.proofs.Common.{ℕ, take}
use Rattle.std.specs.Prelude.{◌↔◌}
use Rattle.std.specs.List.{Contains}
use Rattle.shape_eval.specs.Predicates.{IsPathAtSome}
use Rattle.shape_eval.proofs.closing.path_predicates.Given as goal

abbrev pub invariant-loop-place : goal.invariant-loop-place
invariant-loop-place l = (p : ℕ) → Contains l.found.items p ↔ IsPathAtSome l.shapes (take l.place-index l.places) p
