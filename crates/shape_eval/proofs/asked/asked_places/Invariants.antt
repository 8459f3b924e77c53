use Rattle.std.proofs.Common.{ℕ, take}
use Rattle.std.specs.Prelude.{◌↔◌}
use Rattle.std.specs.List.{Contains}
use Rattle.shape_eval.specs.Told.{AsksSome}
use Rattle.shape_eval.proofs.asked.asked_places.Given as goal

abbrev pub invariant-loop-constraint : goal.invariant-loop-constraint
invariant-loop-constraint l = (n : ℕ) → Contains l.places.items n ↔ AsksSome l.shape (take l.constraint-index l.constraints) n
