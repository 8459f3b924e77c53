use Rattle.shape_model.specs.Components.{IsQualified}
use Rattle.shape_model.specs.Readings.{reading}
use Rattle.plain_values.specs.Around.{around}
use Rattle.plain_components.specs.Siblings.{IsWrong}
use Rattle.plain_components.proofs.Closings.{qualified_nodes}
use Rattle.plain_values.proofs.Made.{counted_by}
use Rattle.plain_components.proofs.qualified.qualified_rows_of.Goals as goal

pub returns : goal.returns
returns c =
    let at = c.args.at.now in
    let q = c.args.parameter.now in
    let m = c.args.shape.now in
    counted_by at c.args.component q (IsQualified (around at) (reading at.shapes.now at.shape.now) m) (IsWrong c.args.component q) c.in_ok-nodes.nodes c.len.result c.is_wrong-wrong.result c.in_ok-rows.rows.items
    (qualified_nodes at m c.args.siblings.now c.in_ok-found.found c.in_ok-nodes.nodes c.requires c.in_ok-found.ensures c.in_ok-nodes.ensures) c.len.ensures c.is_wrong-wrong.ensures c.in_ok-rows.ensures
