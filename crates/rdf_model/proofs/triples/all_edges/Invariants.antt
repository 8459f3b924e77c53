use Rattle.std.proofs.Common.{◌≡◌, take}
use Rattle.std.specs.List.{filter_map}
use Rattle.rdf_model.specs.Numbers.{edge_in}
use Rattle.rdf_model.proofs.triples.all_edges.Given as goal

abbrev pub invariant-loop-triple : goal.invariant-loop-triple
invariant-loop-triple l = l.edges.items ≡ filter_map (edge_in l.subject) (take l.triple-index l.triples)
