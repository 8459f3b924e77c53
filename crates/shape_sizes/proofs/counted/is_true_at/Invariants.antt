use Rattle.std.proofs.Common.{◌≡◌, take}
use Rattle.std.specs.List.{Contains}
use Rattle.rdf_model.specs.declared.triple.Triple.{Triple}
use Rattle.shape_model.specs.Vocabulary.{true_literal}
use Rattle.shape_sizes.proofs.counted.is_true_at.Given as goal

abbrev pub invariant-loop-triple : goal.invariant-loop-triple
invariant-loop-triple l = (t : Triple) → Contains (take l.triple-index l.triple-items) t → t.object ≡ true_literal → ⊥
