use Rattle.result_evidence.specs.AimedRows.{AreAimsBelow}
use Rattle.result_evidence.specs.Standing.{ForEach}
use Rattle.result_evidence.proofs.gathering.aimed_of_all.Given as goal

abbrev pub invariant-loop-place : goal.invariant-loop-place
invariant-loop-place g l = ForEach l.evaluation.terms l.evaluation.shapes (λ s. AreAimsBelow l.evaluation.terms l.evaluation.ids l.evaluation.shapes l.place s l.all.items)
