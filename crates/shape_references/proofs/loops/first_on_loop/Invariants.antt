use Rattle.std.proofs.Common.{take}
use Rattle.std.specs.List.{Contains}
use Rattle.rdf_model.specs.declared.triple.Triple.{Triple}
use Rattle.shape_references.specs.Chains.{LeadsBack}
use Rattle.shape_references.proofs.loops.first_on_loop.Given as goal

abbrev pub invariant-loop-index : goal.invariant-loop-index
invariant-loop-index l = (t : Triple) → Contains (take l.index l.graph) t → LeadsBack l.graph t → ⊥
