use Rattle.std.proofs.Common.{◌∙◌, [], sym, ap, subst}
use Rattle.rdf_model.specs.Graphs.{with_each}
use Rattle.rdf_model.specs.Numbers.{AreNumbered, graph_of}
use Rattle.data_graph.specs.DataGraphs.{NamedGraph}
use Rattle.data_graph.proofs.graph.DataGraph.triples_of.Goals as goal

pub sorted_triples-requires : goal.sorted_triples-requires
sorted_triples-requires c = subst (λ (d : NamedGraph). AreNumbered d.terms c.args.ids.now) (sym c.self.view_is) c.requires

pub returns : goal.returns
returns c = c.in_ok-triples.ensures ∙ ap (λ (d : NamedGraph). with_each [] (graph_of d.terms c.args.ids.now)) c.self.view_is
