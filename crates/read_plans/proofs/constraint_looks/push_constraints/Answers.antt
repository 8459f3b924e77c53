use Rattle.std.proofs.Common.{◌<◌, length, map, arith}
use Rattle.std.specs.List.{flat_map}
use Rattle.std.proofs.lemmas.Result.{err_from_is_err_and}
use Rattle.path_ast.specs.PathReadings.{defined_path}
use Rattle.shape_ast.specs.Readings.{read_constraint}
use Rattle.read_plans.specs.ShapeRows.{constraint_rows}
use Rattle.read_plans.proofs.Growing.{mapped_stopped, stopped_exit}
use Rattle.read_plans.proofs.constraint_looks.push_constraints.Goals as goal

pub returns-in_err-push_constraint_rows : goal.returns-in_err-push_constraint_rows
returns-in_err-push_constraint_rows c =
    let lt : c.loop-constraint.constraint-index < length c.args.constraints.now = omega (arith, c.loop-constraint-test.true) in
    let rows_of = constraint_rows (map defined_path c.args.way.now) (map defined_path c.args.values.now) in
    let all = flat_map rows_of (map (read_constraint (λ t. t)) c.args.constraints.now) in
    let f = c.in_err-push_constraint_rows.field-0.0 in
    let k = err_from_is_err_and c.from_residual.result c.from_residual.ensures.1 in
    stopped_exit all c.args.rows.now c.push_constraint_rows.new.rows c.from_residual.result f k.0 k.1 k.2
    (mapped_stopped (read_constraint (λ t. t)) rows_of c.args.constraints.now c.loop-constraint.constraint-index c.constraint-item.result lt c.constraint-item.is c.args.rows.now c.loop-constraint.rows all f c.loop-constraint.invariant c.in_err-push_constraint_rows.ensures)
