use Rattle.std.proofs.Common.{◌≡◌, [], take}
use Rattle.rdf_model.specs.declared.term.Term.{Term}
use Rattle.rdf_model.specs.declared.triple.Triple.{Triple}
use Rattle.shape_syntax.specs.Gathering.{HasGathered}
use Rattle.shape_reader.proofs.values.objects_of.Given as goal

abbrev pub invariant-loop-triple : goal.invariant-loop-triple
invariant-loop-triple l = HasGathered (λ (t : Triple) (o : Term). t.object ≡ o) (take l.triple-index l.triples) [] l.objects
