use Rattle.std.proofs.Common.{◌≡◌, map, take}
use Rattle.result_evidence.specs.Standing.{with_edge}
use Rattle.result_evidence.proofs.triples.with_edges.Given as goal

abbrev pub invariant-loop-edge : goal.invariant-loop-edge
invariant-loop-edge l = l.found.items ≡ map (with_edge l.subject) (take l.edge-index l.edges)
