use Rattle.std.proofs.Common.{◌≡◌, map, drop}
use Rattle.std.specs.List.{list_any}
use Rattle.shape_ast.specs.Readings.{read_constraint}
use Rattle.read_plans.specs.ShapeRows.{is_count}
use Rattle.read_plans.proofs.references.have_count.Given as goal

abbrev pub invariant-loop-constraint : goal.invariant-loop-constraint
invariant-loop-constraint l = list_any is_count (map (read_constraint (λ t. t)) (drop l.constraint-index l.constraints)) ≡ list_any is_count (map (read_constraint (λ t. t)) l.constraints)
