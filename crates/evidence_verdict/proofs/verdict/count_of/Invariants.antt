use Rattle.std.proofs.Common.{◌+◌, ◌≤◌, length}
use Rattle.rdf_model.specs.Numbers.{graph_of}
use Rattle.result_evidence.specs.Standing.{ForEach}
use Rattle.evidence_verdict.proofs.Counted.{AreShown}
use Rattle.evidence_verdict.proofs.verdict.count_of.Given as goal

abbrev pub invariant-loop-rest : goal.invariant-loop-rest
invariant-loop-rest g l =
    ForEach l.evaluation.terms l.evaluation.shapes (λ s. AreShown (graph_of l.evaluation.terms l.evaluation.ids) s l.text l.count l.rest) × (l.count + length l.rest ≤ length l.text)

abbrev pub decreases-loop-rest : goal.decreases-loop-rest
decreases-loop-rest g l = length l.rest
