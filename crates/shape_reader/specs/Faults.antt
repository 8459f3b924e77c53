-- Why no shapes were read of a shapes graph.
use Rattle.std.specs.Prelude.{◌≡◌, List}
use Rattle.rdf_model.specs.declared.triple.Triple.{Triple}
use Rattle.outside.specs.Faults.{Refusal}
use Rattle.shape_rules.specs.Broken.{IsLeast, IsWellFormed}
use Rattle.shape_reader.specs.declared.fault.CompileFault.{CompileFault}
use Rattle.shape_reader.specs.declared.fault.CompileFault.TheVariants as compile_faults
use Rattle.shape_reader.specs.declared.fault.ShapeFault.{ShapeFault}
use Rattle.shape_reader.specs.declared.fault.ShapeFault.TheVariants as faults
use Rattle.shape_reader.specs.Parts.{IsRefused}

-- why the shapes of a well-formed graph were not compiled: the pattern of one joined those that were refused, or memory
-- ran out
abbrev pub IsCompileCause : List Triple → CompileFault → List Refusal → List Refusal → Type 0
IsCompileCause s (compile_faults.Pattern n) old new = IsRefused s n old new
IsCompileCause s compile_faults.Memory old new = new ≡ old

-- why no shapes were read: rules are broken, of which the least row is told (SHACL 3.4.2); or the graph is well-formed, and
-- the pattern of a shape joined those that were refused; or memory ran out
abbrev pub IsCause : List Triple → ShapeFault → List Refusal → List Refusal → Type 0
IsCause s (faults.Rule r) old new = IsLeast s r × (new ≡ old)
IsCause s (faults.Pattern n) old new = IsWellFormed s × IsRefused s n old new
IsCause s faults.Memory old new = new ≡ old

-- the same fault, as a reader of shapes tells it
abbrev pub shape_fault : CompileFault → ShapeFault
shape_fault (compile_faults.Pattern n) = faults.Pattern n
shape_fault compile_faults.Memory = faults.Memory
