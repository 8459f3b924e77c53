use Rattle.std.proofs.Common.{◌≡◌, take}
use Rattle.std.specs.List.{filter_map}
use Rattle.plain_terms.specs.Finds.{subject_in}
use Rattle.plain_terms.proofs.graph.subjects_found.Given as goal

abbrev pub invariant-loop-triple : goal.invariant-loop-triple
invariant-loop-triple l = l.found ≡ filter_map (subject_in l.predicate) (take l.triple-index l.graph)
