use Rattle.shape_properties.proofs.Defined.{shape_same}
use Rattle.shape_properties.proofs.laws.shapes_are_those_defined.Goals as goal

pub returns : goal.returns
returns c = shape_same
