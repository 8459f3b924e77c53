-- What a find gives.
use Rattle.std.specs.Prelude.{List}
use Rattle.std.specs.List.{filter}
use Rattle.rdf_model.specs.declared.pattern.Pattern.{Pattern}
use Rattle.rdf_model.specs.declared.triple.Triple.{Triple}
use Rattle.rdf_model.specs.Matching.{matches}

-- the triples of a graph that a find asks for, in the graph's order
abbrev pub found : List Triple → Pattern → List Triple
found graph p = filter (λ t. matches p t) graph
