use Rattle.std.proofs.Common.{◌≡◌, map, take}
use Rattle.result_evidence.specs.Standing.{with_object}
use Rattle.result_evidence.proofs.triples.with_objects.Given as goal

abbrev pub invariant-loop-object : goal.invariant-loop-object
invariant-loop-object l = l.found.items ≡ map (with_object l.subject l.predicate) (take l.object-index l.objects)
