use Rattle.std.proofs.Common.{◌≡◌, refl, subst}
use Rattle.collections.specs.Ordered.{IsAscending}
use Rattle.rdf_model.specs.Terms.{triple_cmp}
use Rattle.data_graph.specs.DataGraphs.{IsIndexOf, NamedGraph, triples_at}
use Rattle.data_graph.proofs.Listed.{ascends, stands}
use Rattle.data_graph.proofs.graph.DataGraph.index.Goals as goal

pub returns-clause-triples : goal.returns-clause-triples
returns-clause-triples c = subst (λ (d : NamedGraph). triples_at d.terms c.self.inside.numbers ≡ d.triples) c.self.view_is refl

pub returns-clause-index : goal.returns-clause-index
returns-clause-index c =
    subst (λ (d : NamedGraph). IsIndexOf d.terms c.self.inside.numbers d.triples) c.self.view_is (stands c.self.inside.names.terms c.self.inside.numbers c.self.invariant.1)

pub returns-clause-ascending : goal.returns-clause-ascending
returns-clause-ascending c = subst (λ (d : NamedGraph). IsAscending triple_cmp d.triples) c.self.view_is (ascends c.self.inside.names.terms c.self.inside.numbers)
