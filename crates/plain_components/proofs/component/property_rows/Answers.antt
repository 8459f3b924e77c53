use Rattle.plain_components.proofs.AllComponents.{property_found}
use Rattle.plain_components.proofs.component.property_rows.Goals as goal

pub returns : goal.returns
returns c = property_found c.args.at.now c.in_ok-properties.properties c.as_slice.result.now c.in_ok-rows.rows.items c.in_ok-properties.ensures c.as_slice.ensures c.in_ok-rows.ensures
