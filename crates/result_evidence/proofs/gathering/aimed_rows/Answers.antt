use Rattle.std.proofs.Common.{length, subst}
use Rattle.std.proofs.lemmas.Result.{IfOk-weaker}
use Rattle.std.specs.List.{Contains}
use Rattle.collections.specs.Listings.{IsListing}
use Rattle.shape_eval.specs.Settings.{Setting}
use Rattle.result_evidence.specs.AimedOrder.{aimed_cmp}
use Rattle.result_evidence.specs.AimedRows.{AreAimedRows, AreAimsBelow}
use Rattle.result_evidence.specs.Standing.{ForEach}
use Rattle.result_evidence.proofs.Aimed.{in_order}
use Rattle.result_evidence.proofs.gathering.aimed_rows.Goals as goal

pub returns : goal.returns
returns g c =
    let terms = c.args.data.now.terms in
    let ids = c.args.data.now.ids in
    let shapes = c.args.bound.now.shapes in
    let rows = c.in_ok-rows.rows.items in
    let all = subst (λ (t : Setting). ForEach t.terms t.shapes (λ s. AreAimsBelow t.terms t.ids t.shapes (length t.shapes) s rows)) c.evaluation-evaluation.ensures c.in_ok-rows.ensures in
    IfOk-weaker c.sorted_once.result (λ sorted. IsListing aimed_cmp (Contains rows) sorted.items) (λ sorted. AreAimedRows terms ids shapes sorted.items)
    (λ sorted l. in_order terms ids shapes rows sorted.items all l) c.sorted_once.ensures
