use Rattle.std.proofs.Common.{◌≡◌, take}
use Rattle.shape_ast.proofs.parts.copy_places.Given as goal

abbrev pub invariant-loop-place : goal.invariant-loop-place
invariant-loop-place l = l.copy ≡ take l.place-index l.places
