-- That what the sizes of shapes rest on is what the definitions of SHACL read at a shape.
use Rattle.std.specs.Prelude.{◌↔◌, List}
use Rattle.rdf_model.specs.declared.term.Term.{Term}
use Rattle.rdf_model.specs.declared.triple.Triple.{Triple}
use Rattle.shape_model.specs.Readings.{reading}
use Rattle.shape_model.specs.Readings as definitions
use Rattle.shape_sizes.specs.Sizes.{HasQualifiedCount, IsDeactivated}

-- a shape is deactivated (SHACL 2.1.6)
abbrev pub DeactivatedIsDefined : Type 0
DeactivatedIsDefined = (s : List Triple) (n : Term) → IsDeactivated s n ↔ definitions.IsDeactivated (reading s n)

-- it has a qualified count (SHACL 4.7.3)
abbrev pub CountIsDefined : Type 0
CountIsDefined = (s : List Triple) (n : Term) → HasQualifiedCount s n ↔ definitions.HasQualifiedCount (reading s n)
