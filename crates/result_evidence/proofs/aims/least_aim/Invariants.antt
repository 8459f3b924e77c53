use Rattle.result_evidence.specs.Aims.{GivesNoneBelow}
use Rattle.result_evidence.specs.Standing.{ForEach}
use Rattle.result_evidence.proofs.aims.least_aim.Given as goal

abbrev pub invariant-loop-place : goal.invariant-loop-place
invariant-loop-place g l = ForEach l.evaluation.terms l.evaluation.shapes (λ s. GivesNoneBelow l.evaluation.terms l.evaluation.ids l.evaluation.shapes s l.row l.place)
