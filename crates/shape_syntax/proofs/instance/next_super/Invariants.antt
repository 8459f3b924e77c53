use Rattle.std.proofs.Common.{take}
use Rattle.std.specs.List.{Contains}
use Rattle.rdf_model.specs.declared.term.Term.{Term}
use Rattle.shape_model.specs.Triples.{Has, IsMember}
use Rattle.shape_model.specs.Vocabulary.{sub_class_of}
use Rattle.shape_syntax.proofs.instance.next_super.Given as goal

abbrev pub invariant-loop-class : goal.invariant-loop-class
invariant-loop-class l = (a : Term) → Contains (take l.class-index l.classes) a → ((x : Term) → Has l.graph a sub_class_of x → IsMember l.classes x)
