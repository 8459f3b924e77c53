use Rattle.std.proofs.Common.{◌≡◌, take}
use Rattle.std.specs.List.{filter_map}
use Rattle.plain_terms.specs.Finds.{object_in}
use Rattle.plain_terms.proofs.graph.objects_found.Given as goal

abbrev pub invariant-loop-triple : goal.invariant-loop-triple
invariant-loop-triple l = l.found ≡ filter_map (object_in l.subject l.predicate) (take l.triple-index l.graph)
