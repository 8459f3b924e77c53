use Rattle.std.proofs.Common.{◌≡◌, take}
use Rattle.rdf_model.specs.declared.term.Term.{Term}
use Rattle.rdf_model.specs.declared.triple.Triple.{Triple}
use Rattle.shape_syntax.specs.Gathering.{HasGathered}
use Rattle.shape_sizes.proofs.counted.push_objects.Given as goal

abbrev pub invariant-loop-triple : goal.invariant-loop-triple
invariant-loop-triple l = HasGathered (λ (t : Triple) (v : Term). t.object ≡ v) (take l.triple-index l.triples) l.fn.nodes l.nodes
