use Rattle.std.proofs.Common.{◌≡◌, take}
use Rattle.std.specs.List.{Contains}
use Rattle.rdf_model.specs.declared.term.Term.{Term}
use Rattle.rdf_model.specs.declared.term.Term.TheVariants.{Iri}
use Rattle.shape_properties.proofs.terms.has_class.Given as goal

abbrev pub invariant-loop-class : goal.invariant-loop-class
invariant-loop-class l = (t : Term) → Contains (take l.class-index l.classes) t → t ≡ Iri l.iri → ⊥
