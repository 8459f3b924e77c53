use Rattle.std.proofs.Common.{◌≡◌, [], drop}
use Rattle.read_plans.specs.ShapeRows.{with_places}
use Rattle.read_plans.proofs.references.each_once.Given as goal

abbrev pub invariant-loop-place : goal.invariant-loop-place
invariant-loop-place l = with_places l.found.items (drop l.place-index l.places) ≡ with_places [] l.places
