use Rattle.std.proofs.Common.{◌≡◌, ◌++◌, take}
use Rattle.std.specs.List.{filter_map}
use Rattle.rdf_model.specs.Numbers.{number_in}
use Rattle.rdf_model.proofs.triples.add_all_found.Given as goal

-- what the look asks for in the triples so far has come to the end
abbrev pub invariant-loop-triple : goal.invariant-loop-triple
invariant-loop-triple l = l.found.items ≡ l.fn.found.items ++ filter_map (number_in l.look) (take l.triple-index l.triples)
