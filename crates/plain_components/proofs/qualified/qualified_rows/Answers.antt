use Rattle.shape_model.specs.Readings.{Sibling}
use Rattle.plain_terms.proofs.FoundItems.{finds_at}
use Rattle.plain_components.specs.Siblings.{IsWrong}
use Rattle.plain_components.proofs.Closings.{qualified_made}
use Rattle.plain_components.proofs.qualified.qualified_rows.Goals as goal

pub qualified_rows_of_each-requires : goal.qualified_rows_of_each-requires
qualified_rows_of_each-requires c = finds_at (Sibling c.args.at.now.shapes.now c.args.at.now.shape.now) c.in_ok-beside.beside c.as_slice-2.result.now c.as_slice-2.ensures c.in_ok-beside.ensures

pub returns : goal.returns
returns c =
    let q = c.args.parameter.now in
    qualified_made c.args.at.now c.args.component q (IsWrong c.args.component q) c.in_ok-shapes.shapes c.as_slice.result.now c.in_ok-rows.rows.items c.in_ok-shapes.ensures c.as_slice.ensures c.in_ok-rows.ensures
