use Rattle.std.proofs.Common.{◌+◌, ◌*◌, ℕ, map, drop}
use Rattle.std.specs.List.{flat_map}
use Rattle.path_ast.specs.PathReadings.{defined_path}
use Rattle.shape_ast.specs.Readings.{read_shapes}
use Rattle.read_plans.specs.ShapeRows.{shape_rows}
use Rattle.read_plans.proofs.Growing.{IsLeft}
use Rattle.read_plans.proofs.planning.+planning.Given as goal

abbrev pub invariant-push_shapes-loop-place : goal.invariant-push_shapes-loop-place
invariant-push_shapes-loop-place l =
    let below = λ (n : ℕ). shape_rows (read_shapes l.shapes) l.levels n (map defined_path l.way) in
    IsLeft l.fn.rows l.rows (flat_map below l.places) (flat_map below (drop l.place-index l.places))

abbrev pub decreases-push_shapes : goal.decreases-push_shapes
decreases-push_shapes a = 2 * a.levels + 1

abbrev pub decreases-push_shape : goal.decreases-push_shape
decreases-push_shape a = 2 * a.levels
