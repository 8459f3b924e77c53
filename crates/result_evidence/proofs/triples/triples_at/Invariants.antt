use Rattle.std.proofs.Common.{◌≡◌, map, take}
use Rattle.rdf_model.specs.Numbers.{triple_at}
use Rattle.result_evidence.proofs.triples.triples_at.Given as goal

abbrev pub invariant-loop-each : goal.invariant-loop-each
invariant-loop-each g l = l.triples.items ≡ map (triple_at (g.N.Names.terms l.names)) (take l.each-index l.ids)
