use Rattle.std.proofs.Common.{take}
use Rattle.std.specs.Prelude.{◌↔◌}
use Rattle.std.specs.List.{Contains}
use Rattle.focus_affected.specs.declared.index.RowPlace.{RowPlace}
use Rattle.focus_affected.specs.declared.plan.NumberedKind.{NumberedKind}
use Rattle.focus_affected.specs.Index.{IsAskedOf, IsKindAt}
use Rattle.focus_affected.proofs.index.IndexedPlans.rows_under.Given as goal

-- the places of the rows that ask of the predicates so far
abbrev pub invariant-loop-predicate : goal.invariant-loop-predicate
invariant-loop-predicate l = (at : RowPlace) → Contains l.places.items at ↔ ((kind : NumberedKind) × IsKindAt l.self at kind × IsAskedOf (take l.predicate-index l.predicates) kind)
