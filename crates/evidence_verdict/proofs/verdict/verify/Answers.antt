use Rattle.std.proofs.Common.{subst}
use Rattle.std.specs.Prelude.{MatchResult}
use Rattle.rdf_model.specs.Numbers.{graph_of}
use Rattle.shape_eval.specs.Settings.{Setting}
use Rattle.evidence_blocks.specs.Verdicts.{IsVerified}
use Rattle.result_evidence.specs.Standing.{ForEach}
use Rattle.evidence_verdict.specs.Causes.{IsCause}
use Rattle.evidence_verdict.proofs.verdict.verify.Goals as goal

pub returns : goal.returns
returns g c =
    let text = c.args.text.now in
    subst (λ (t : Setting). ForEach t.terms t.shapes (λ s. MatchResult c.count_of.result (IsVerified (graph_of t.terms t.ids) s text) (IsCause (graph_of t.terms t.ids) s text))) c.evaluation-evaluation.ensures c.count_of.ensures
