use Rattle.std.proofs.Common.{◌≡◌, map, take}
use Rattle.result_evidence.specs.Standing.{with_subject}
use Rattle.result_evidence.proofs.triples.with_subjects.Given as goal

abbrev pub invariant-loop-subject : goal.invariant-loop-subject
invariant-loop-subject l = l.found.items ≡ map (with_subject l.predicate l.object) (take l.subject-index l.subjects)
