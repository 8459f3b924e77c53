use Rattle.std.proofs.Common.{◌∙◌, ap}
use Rattle.collections.specs.Ordered.{has_item}
use Rattle.rdf_model.specs.Terms.{triple_cmp}
use Rattle.data_graph.specs.DataGraphs.{NamedGraph}
use Rattle.data_graph.proofs.graph.DataGraph.contains.Goals as goal

pub has_triple-requires : goal.has_triple-requires
has_triple-requires c = c.self.invariant.1

pub returns : goal.returns
returns c = c.has_triple.ensures ∙ ap (λ (d : NamedGraph). has_item triple_cmp c.args.triple.now d.triples) c.self.view_is
