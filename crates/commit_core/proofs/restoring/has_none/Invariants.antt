use Rattle.std.proofs.Common.{◌≡◌, drop, not}
use Rattle.std.specs.List.{list_all}
use Rattle.collections.specs.Ordered.{has_item}
use Rattle.rdf_model.specs.Numbers.{graph_of}
use Rattle.rdf_model.specs.Terms.{triple_cmp}
use Rattle.commit_core.proofs.restoring.has_none.Given as goal

abbrev pub invariant-loop-ids : goal.invariant-loop-ids
invariant-loop-ids l =
    list_all (λ t. not (has_item triple_cmp t l.graph.triples)) (graph_of l.graph.terms (drop l.ids-index l.triples)) ≡ list_all (λ t. not (has_item triple_cmp t l.graph.triples)) (graph_of l.graph.terms l.triples)
