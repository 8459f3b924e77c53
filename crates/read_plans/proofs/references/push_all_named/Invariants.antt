use Rattle.std.proofs.Common.{◌≡◌, ◌++◌, map, drop}
use Rattle.std.specs.List.{flat_map}
use Rattle.shape_ast.specs.Readings.{read_constraint}
use Rattle.read_plans.specs.ShapeRows.{constraint_places}
use Rattle.read_plans.proofs.references.push_all_named.Given as goal

abbrev pub invariant-loop-constraint : goal.invariant-loop-constraint
invariant-loop-constraint l =
    l.places.items ++ flat_map constraint_places (map (read_constraint (λ t. t)) (drop l.constraint-index l.constraints)) ≡ l.fn.places.items ++ flat_map constraint_places (map (read_constraint (λ t. t)) l.constraints)
