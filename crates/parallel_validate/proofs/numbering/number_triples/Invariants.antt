use Rattle.std.proofs.Common.{◌≡◌, take}
use Rattle.rdf_model.specs.Numbers.{AreNumbered, graph_of}
use Rattle.parallel_validate.proofs.numbering.number_triples.Given as goal

abbrev pub invariant-loop-triple : goal.invariant-loop-triple
invariant-loop-triple g l = AreNumbered (g.N.Names.terms l.names) l.ids × (graph_of (g.N.Names.terms l.names) l.ids ≡ take l.triple-index l.graph)
