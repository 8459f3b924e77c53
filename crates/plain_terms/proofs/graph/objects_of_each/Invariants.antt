use Rattle.std.proofs.Common.{take}
use Rattle.rdf_model.specs.declared.term.Term.{Term}
use Rattle.shape_model.specs.Triples.{Has}
use Rattle.plain_terms.specs.Finds.{Finds, WithSome}
use Rattle.plain_terms.proofs.graph.objects_of_each.Given as goal

abbrev pub invariant-loop-node : goal.invariant-loop-node
invariant-loop-node l = Finds (WithSome (take l.node-index l.nodes) (λ (node object : Term). Has l.graph node l.predicate object)) l.found.items
