use Rattle.std.proofs.Common.{take}
use Rattle.std.specs.List.{Contains}
use Rattle.rdf_model.specs.declared.triple.Triple.{Triple}
use Rattle.shape_properties.specs.OfProperties.{OfMaking}
use Rattle.shape_properties.proofs.shapes.has_making.Given as goal

abbrev pub invariant-loop-triple : goal.invariant-loop-triple
invariant-loop-triple l = (t : Triple) → Contains (take l.triple-index l.own) t → OfMaking t → ⊥
