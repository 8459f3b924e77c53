use Rattle.std.proofs.Common.{map, drop}
use Rattle.std.specs.List.{flat_map}
use Rattle.path_ast.specs.PathReadings.{defined_path}
use Rattle.shape_ast.specs.Readings.{read_constraint}
use Rattle.read_plans.specs.ShapeRows.{constraint_rows}
use Rattle.read_plans.proofs.Growing.{IsLeft}
use Rattle.read_plans.proofs.constraint_looks.push_constraints.Given as goal

abbrev pub invariant-loop-constraint : goal.invariant-loop-constraint
invariant-loop-constraint l =
    let rows_of = constraint_rows (map defined_path l.way) (map defined_path l.values) in
    IsLeft l.fn.rows l.rows (flat_map rows_of (map (read_constraint (λ t. t)) l.constraints)) (flat_map rows_of (map (read_constraint (λ t. t)) (drop l.constraint-index l.constraints)))
