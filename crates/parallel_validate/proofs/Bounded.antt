-- In a well-formed shapes graph no shape refers to itself, and no chain of references is longer than a validation follows.
use Rattle.std.proofs.Common.{List}
use Rattle.rdf_model.specs.declared.triple.Triple.{Triple}
use Rattle.shape_model.specs.Limits.{levels_limit}
use Rattle.shape_model.specs.Readings.{IsAcyclic, IsShallow}
use Rattle.shape_rules.specs.Broken.{IsWellFormed}
use Rattle.shape_rules.proofs.Acyclic.{acyclic}
use Rattle.shape_rules.proofs.Shallow.{shallow}

pub well_acyclic : (s : List Triple) → IsWellFormed s → IsAcyclic s
well_acyclic s well = acyclic s well

pub well_shallow : (s : List Triple) → IsWellFormed s → IsShallow levels_limit s
well_shallow s well = shallow s well
