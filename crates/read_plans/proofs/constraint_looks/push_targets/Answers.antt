use Rattle.std.proofs.Common.{◌<◌, length, map, arith}
use Rattle.std.specs.List.{flat_map}
use Rattle.std.proofs.lemmas.Result.{err_from_is_err_and}
use Rattle.shape_ast.specs.Readings.{read_target}
use Rattle.read_plans.specs.ShapeRows.{target_rows}
use Rattle.read_plans.proofs.Growing.{mapped_stopped, stopped_exit}
use Rattle.read_plans.proofs.constraint_looks.push_targets.Goals as goal

pub returns-in_err-push_target_rows : goal.returns-in_err-push_target_rows
returns-in_err-push_target_rows c =
    let lt : c.loop-target.target-index < length c.args.targets.now = omega (arith, c.loop-target-test.true) in
    let all = flat_map target_rows (map (read_target (λ t. t)) c.args.targets.now) in
    let f = c.in_err-push_target_rows.field-0.0 in
    let k = err_from_is_err_and c.from_residual.result c.from_residual.ensures.1 in
    stopped_exit all c.args.rows.now c.push_target_rows.new.rows c.from_residual.result f k.0 k.1 k.2
    (mapped_stopped (read_target (λ t. t)) target_rows c.args.targets.now c.loop-target.target-index c.target-item.result lt c.target-item.is c.args.rows.now c.loop-target.rows all f c.loop-target.invariant c.in_err-push_target_rows.ensures)
