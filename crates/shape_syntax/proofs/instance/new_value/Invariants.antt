use Rattle.std.proofs.Common.{take}
use Rattle.std.specs.List.{Contains}
use Rattle.rdf_model.specs.declared.triple.Triple.{Triple}
use Rattle.shape_model.specs.Triples.{IsMember}
use Rattle.shape_syntax.proofs.instance.new_value.Given as goal

abbrev pub invariant-loop-triple : goal.invariant-loop-triple
invariant-loop-triple l = (t : Triple) → Contains (take l.triple-index l.triple-items) t → (IsMember l.classes t.object → ⊥) → ⊥
