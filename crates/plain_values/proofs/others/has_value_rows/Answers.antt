use Rattle.std.proofs.Common.{not}
use Rattle.std.specs.List.{Contains}
use Rattle.shape_model.specs.Components.{found_alone}
use Rattle.shape_syntax.proofs.Loops.{pathless}
use Rattle.plain_values.specs.Around.{row_at}
use Rattle.shape_model.specs.declared.component.Component.TheVariants as components
use Rattle.plain_values.proofs.Made.{tested}
use Rattle.plain_values.proofs.others.has_value_rows.Goals as goal

pub returns : goal.returns
returns c =
    let here = Contains c.args.at.now.values.now c.args.parameter.now in
    tested (not c.is_among-is_wrong.result) (here → ⊥) (row_at c.args.at.now components.HasValue c.args.parameter.now found_alone) c.in_ok-rows.rows.items (pathless c.is_among-is_wrong.result here c.is_among-is_wrong.ensures) c.in_ok-rows.ensures
