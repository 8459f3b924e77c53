use Rattle.std.proofs.Common.{take}
use Rattle.std.specs.List.{All}
use Rattle.rdf_model.specs.Numbers.{graph_of}
use Rattle.evidence_blocks.specs.Blocks.{HasTriples}
use Rattle.evidence_verdict.proofs.exact.are_exact.Given as goal

abbrev pub invariant-loop-look : goal.invariant-loop-look
invariant-loop-look g l = All (HasTriples (graph_of (g.N.Names.terms l.names) (g.R.Triples.triples l.graph))) (take l.look-index l.looks)
