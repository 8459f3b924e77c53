use Rattle.std.proofs.Common.{map, drop}
use Rattle.std.specs.List.{flat_map}
use Rattle.shape_ast.specs.Readings.{read_target}
use Rattle.read_plans.specs.ShapeRows.{target_rows}
use Rattle.read_plans.proofs.Growing.{IsLeft}
use Rattle.read_plans.proofs.constraint_looks.push_targets.Given as goal

abbrev pub invariant-loop-target : goal.invariant-loop-target
invariant-loop-target l =
    IsLeft l.fn.rows l.rows (flat_map target_rows (map (read_target (λ t. t)) l.targets)) (flat_map target_rows (map (read_target (λ t. t)) (drop l.target-index l.targets)))
