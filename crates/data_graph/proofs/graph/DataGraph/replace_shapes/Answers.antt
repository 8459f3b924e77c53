use Rattle.std.proofs.Common.{sym, subst}
use Rattle.parallel_validate.specs.Named.{AreNamedTriples}
use Rattle.data_graph.specs.DataGraphs.{NamedGraph}
use Rattle.data_graph.proofs.graph.DataGraph.replace_shapes.Goals as goal

pub new-requires-clause-named : goal.new-requires-clause-named
new-requires-clause-named c = subst (λ (d : NamedGraph). AreNamedTriples d.terms c.args.shapes) (sym c.self.view_is) c.requires
