use Rattle.std.proofs.Common.{◌≡◌, take}
use Rattle.std.specs.List.{All}
use Rattle.rdf_model.specs.Numbers.{graph_of}
use Rattle.evidence_blocks.specs.Blocks.{HasTriples, looks_in}
use Rattle.result_evidence.proofs.shown.shown_looks.Given as goal

abbrev pub invariant-loop-look : goal.invariant-loop-look
invariant-loop-look g l = record {
  looks : looks_in l.shown ≡ take l.look-index l.looks;
  triples : All (HasTriples (graph_of (g.N.Names.terms l.names) (g.R.Triples.triples l.graph))) l.shown;
}
