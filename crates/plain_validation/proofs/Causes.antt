-- The fault of a reader of shapes has its cause in the two texts.
use Rattle.std.proofs.Common.{ℕ, List}
use Rattle.rdf_model.specs.declared.triple.Triple.{Triple}
use Rattle.outside.specs.Faults.{Refusal}
use Rattle.shape_reader.specs.declared.fault.ShapeFault.{ShapeFault}
use Rattle.shape_reader.specs.declared.fault.ShapeFault.TheVariants as faults
use Rattle.shape_reader.specs.Faults as reader
use Rattle.plain_validation.specs.Rows.{HasShapes, IsCause, rows_fault}

pub cause_told : (text other : List ℕ) (s : List Triple) (fault : ShapeFault) (old new : List Refusal) → HasShapes text other s → reader.IsCause s fault old new → IsCause text other old new (rows_fault fault)
cause_told text other s (faults.Rule r) old new h i = (s, h, i.0, i.1)
cause_told text other s (faults.Pattern n) old new h i = (s, h, i.0, i.1)
cause_told text other s faults.Memory old new h i = i
