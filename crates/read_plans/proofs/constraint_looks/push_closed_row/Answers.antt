use Rattle.std.proofs.Common.{map, sym, subst, arith, List}
use Rattle.shape_model.specs.Looks.{LookRow}
use Rattle.path_ast.specs.PathReadings.{defined_path}
use Rattle.read_plans.specs.Rows.{Adds}
use Rattle.read_plans.proofs.Growing.{adds_none}
use Rattle.read_plans.proofs.ShapeSteps.{closed_row, no_closed_row}
use Rattle.read_plans.specs.ShapeRows.{closed_rows}
use Rattle.read_plans.proofs.constraint_looks.push_closed_row.Goals as goal

pub returns-then-not-is_true : goal.returns-then-not-is_true
returns-then-not-is_true c =
    let w = map defined_path c.args.way.now in
    adds_none c.args.rows.now (closed_rows c.args.parameter.now w) (no_closed_row c.is_true.result c.args.parameter.now c.is_true.ensures w (let h = c.if-not-is_true.true in grind (arith, h)))

pub returns : goal.returns
returns c =
    let w = map defined_path c.args.way.now in
    subst (λ (rows : List LookRow). Adds rows c.args.rows.now c.push_row.new.rows c.push_row.result) (sym (closed_row c.is_true.result c.args.parameter.now c.is_true.ensures w (let h = c.if-not-is_true.false in grind (arith, h)))) c.push_row.ensures
