use Rattle.std.proofs.Common.{◌∙◌, length, ap, sym}
use Rattle.data_graph.specs.DataGraphs.{NamedGraph}
use Rattle.data_graph.proofs.Listed.{counted}
use Rattle.data_graph.proofs.graph.DataGraph.len.Goals as goal

pub returns : goal.returns
returns c =
    c.len.ensures ∙ (sym (counted c.self.inside.names.terms c.recall_numbering.ensures c.self.inside.numbers c.self.invariant.1 c.recall_ascending.ensures) ∙ ap (λ (d : NamedGraph). length d.triples) c.self.view_is)
