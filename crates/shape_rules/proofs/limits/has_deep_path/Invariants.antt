use Rattle.std.proofs.Common.{take}
use Rattle.std.specs.List.{Contains}
use Rattle.rdf_model.specs.declared.triple.Triple.{Triple}
use Rattle.shape_syntax.specs.PathDepth.{IsDeep}
use Rattle.shape_rules.proofs.limits.has_deep_path.Given as goal

abbrev pub invariant-loop-triple : goal.invariant-loop-triple
invariant-loop-triple l = (t : Triple) → Contains (take l.triple-index l.triple-items) t → IsDeep l.graph t.object 256 → ⊥
