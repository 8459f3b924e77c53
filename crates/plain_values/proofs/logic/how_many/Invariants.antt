use Rattle.std.proofs.Common.{◌≤◌, take}
use Rattle.plain_values.specs.Tests.{Conforming, Tallied}
use Rattle.plain_values.proofs.logic.how_many.Given as goal

abbrev pub invariant-loop-shape : goal.invariant-loop-shape
invariant-loop-shape l = record { tallied : Tallied (λ m. Conforming l.told m l.node) (take l.shape-index l.shapes) l.yes; few : l.yes ≤ l.shape-index }
