use Rattle.std.proofs.Common.{take}
use Rattle.rdf_model.specs.declared.term.Term.{Term}
use Rattle.shape_model.specs.Triples.{Has}
use Rattle.plain_terms.specs.Finds.{Finds, WithSome}
use Rattle.plain_terms.proofs.instances.subjects_with_any.Given as goal

abbrev pub invariant-loop-object : goal.invariant-loop-object
invariant-loop-object l = Finds (WithSome (take l.object-index l.objects) (λ object (node : Term). Has l.graph node l.predicate object)) l.found.items
