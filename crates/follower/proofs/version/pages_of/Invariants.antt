use Rattle.std.proofs.Common.{◌≡◌, [], drop}
use Rattle.rdf_model.specs.Graphs.{with_each}
use Rattle.follower.proofs.version.pages_of.Given as goal

abbrev pub invariant-loop-triple : goal.invariant-loop-triple
invariant-loop-triple l = with_each l.pages (drop l.triple-index l.triples) ≡ with_each [] l.triples
