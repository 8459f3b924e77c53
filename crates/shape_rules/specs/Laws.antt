-- What is promised of the rules.
use Rattle.std.specs.Prelude.{◌≡◌, List}
use Rattle.rdf_model.specs.declared.triple.Triple.{Triple}
use Rattle.shape_model.specs.Limits.{levels_limit}
use Rattle.shape_model.specs.Readings.{IsAcyclic, IsShallow}
use Rattle.shape_rules.specs.declared.rule_row.RuleRow.{RuleRow}
use Rattle.shape_rules.specs.Broken.{IsLeast, IsWellFormed}

-- In a well-formed shapes graph the results of no shape rest on those of itself.
abbrev pub AcyclicLaw : Type 0
AcyclicLaw = (s : List Triple) → IsWellFormed s → IsAcyclic s

-- In a well-formed shapes graph no chain of references on which results rest is longer than 256.
abbrev pub ShallowLaw : Type 0
ShallowLaw = (s : List Triple) → IsWellFormed s → IsShallow levels_limit s

-- One row is reported.
abbrev pub LeastLaw : Type 0
LeastLaw = (s : List Triple) (q r : RuleRow) → IsLeast s q → IsLeast s r → q ≡ r
