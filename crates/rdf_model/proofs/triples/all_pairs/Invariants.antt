use Rattle.std.proofs.Common.{◌≡◌, take}
use Rattle.std.specs.List.{filter_map}
use Rattle.rdf_model.specs.Numbers.{pair_in}
use Rattle.rdf_model.proofs.triples.all_pairs.Given as goal

abbrev pub invariant-loop-triple : goal.invariant-loop-triple
invariant-loop-triple l = l.pairs.items ≡ filter_map (pair_in l.predicate) (take l.triple-index l.triples)
