use Rattle.std.proofs.Common.{◌≡◌, take}
use Rattle.std.specs.List.{filter_map}
use Rattle.plain_terms.specs.Finds.{subject_with}
use Rattle.plain_terms.proofs.graph.owners_found.Given as goal

abbrev pub invariant-loop-triple : goal.invariant-loop-triple
invariant-loop-triple l = l.found ≡ filter_map (subject_with l.predicate l.object) (take l.triple-index l.graph)
