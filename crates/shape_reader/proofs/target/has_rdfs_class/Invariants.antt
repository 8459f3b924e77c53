use Rattle.std.proofs.Common.{◌≡◌, take}
use Rattle.std.specs.List.{Contains}
use Rattle.rdf_model.specs.declared.term.Term.{Term}
use Rattle.shape_model.specs.Vocabulary.{rdfs_class}
use Rattle.shape_reader.proofs.target.has_rdfs_class.Given as goal

abbrev pub invariant-loop-class : goal.invariant-loop-class
invariant-loop-class l = (t : Term) → Contains (take l.class-index l.classes) t → t ≡ rdfs_class → ⊥
