use Rattle.std.proofs.Common.{◌≡◌, ◌++◌, take}
use Rattle.rdf_model.specs.Numbers.{AreNumbered, graph_of}
use Rattle.evidence_verdict.proofs.listed.push_triples.Given as goal

abbrev pub invariant-loop-triple : goal.invariant-loop-triple
invariant-loop-triple g l =
    (graph_of (g.N.Names.terms l.names) l.ids.items ≡ graph_of (g.N.Names.terms l.names) l.fn.ids.items ++ take l.triple-index l.triples) × AreNumbered (g.N.Names.terms l.names) l.ids.items
