use Rattle.std.proofs.Common.{◌≡◌, ◌++◌, take}
use Rattle.follower.specs.Records.{having}
use Rattle.rdf_model.specs.Numbers.{graph_of}
use Rattle.follower.proofs.misfit.add_all_having.Given as goal

abbrev pub invariant-loop-triple : goal.invariant-loop-triple
invariant-loop-triple l = l.into.items ≡ l.fn.into.items ++ having (take l.triple-index l.triples) (graph_of l.names.terms l.graph)
