use Rattle.std.proofs.Common.{ℕ, subst}
use Rattle.std.specs.List.{Contains}
use Rattle.std.proofs.lemmas.Result.{IfOk-weaker}
use Rattle.collections.specs.Listings.{IsListing}
use Rattle.shape_model.specs.Rows.{result_row_cmp}
use Rattle.shape_eval.specs.Results.{CollectsAt, ListsResults}
use Rattle.shape_eval.specs.Looks.{AddsAt, AddsShapeLooks}
use Rattle.shape_eval.proofs.Looking.{always, shape_looks}
use Rattle.shape_eval.proofs.Depths.{lists_results}
use Rattle.shape_eval.proofs.evaluation.eval.Goals as goal

pub returns-clause-rows : goal.returns-clause-rows
returns-clause-rows g c =
    let terms = c.args.evaluation.now.terms in
    let ids = c.args.evaluation.now.ids in
    let shapes = c.args.evaluation.now.shapes in
    let rows = c.in_ok-rows.rows.items in
    let given = subst (λ (n : ℕ). CollectsAt terms ids shapes n c.args.shape c.args.focus rows) c.most_levels.ensures c.in_ok-rows.ensures.rows in
    IfOk-weaker c.sorted_once.result (λ sorted. IsListing result_row_cmp (Contains rows) sorted.items) (λ sorted. ListsResults terms ids shapes c.args.shape c.args.focus sorted.items)
    (λ sorted listing. lists_results terms ids shapes c.args.shape c.args.focus rows sorted.items given listing) c.sorted_once.ensures

pub returns-clause-looks : goal.returns-clause-looks
returns-clause-looks g c =
    let terms = c.args.evaluation.now.terms in
    let ids = c.args.evaluation.now.ids in
    let shapes = c.args.evaluation.now.shapes in
    let old = c.args.footprint.now in
    let new = c.rows_at.new.footprint in
    let given = subst (λ (n : ℕ). AddsAt terms ids shapes n c.args.shape c.args.focus old new) c.most_levels.ensures c.in_ok-rows.ensures.looks in
    always c.sorted_once.result (λ sorted. AddsShapeLooks terms ids shapes c.args.shape c.args.focus old new) (λ sorted. shape_looks terms ids shapes c.args.shape c.args.focus old new given)

pub returns-clause-kept : goal.returns-clause-kept
returns-clause-kept g c = c.rows_at.ensures.kept

pub returns-in_err-rows-clause-kept : goal.returns-in_err-rows-clause-kept
returns-in_err-rows-clause-kept g c = c.rows_at.ensures.kept
