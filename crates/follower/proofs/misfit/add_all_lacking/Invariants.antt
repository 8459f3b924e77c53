use Rattle.std.proofs.Common.{◌≡◌, ◌++◌, take}
use Rattle.rdf_model.specs.Graphs.{lacking}
use Rattle.rdf_model.specs.Numbers.{graph_of}
use Rattle.follower.proofs.misfit.add_all_lacking.Given as goal

abbrev pub invariant-loop-triple : goal.invariant-loop-triple
invariant-loop-triple l = l.into.items ≡ l.fn.into.items ++ lacking (take l.triple-index l.triples) (graph_of l.names.terms l.graph)
