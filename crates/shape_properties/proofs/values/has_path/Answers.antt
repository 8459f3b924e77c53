use Rattle.shape_syntax.proofs.Loops.{some_item}
use Rattle.shape_properties.proofs.values.has_path.Goals as goal

pub returns : goal.returns
returns c =
    let some = some_item c.property_values_of-paths.result.now c.is_empty.result c.is_empty.ensures in (
      λ h. let t = some.0 h in (t.0.object, c.property_values_of-paths.ensures.each t.0 t.1),
      λ h. some.1 (_, c.property_values_of-paths.ensures.all h.0 h.1),
    )
