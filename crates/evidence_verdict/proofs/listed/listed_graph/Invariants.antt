use Rattle.std.proofs.Common.{◌≡◌, take}
use Rattle.rdf_model.specs.Numbers.{AreNumbered, graph_of}
use Rattle.evidence_blocks.specs.Shown.{triples_in}
use Rattle.evidence_verdict.proofs.listed.listed_graph.Given as goal

abbrev pub invariant-loop-look : goal.invariant-loop-look
invariant-loop-look g l = (graph_of (g.N.Names.terms l.names) l.ids.items ≡ triples_in (take l.look-index l.looks)) × AreNumbered (g.N.Names.terms l.names) l.ids.items
