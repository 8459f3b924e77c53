use Rattle.std.proofs.Common.{◌≡◌, List, subst, sym}
use Rattle.std.specs.List.{flat_map}
use Rattle.std.proofs.lemmas.Result.{IfOk-weaker}
use Rattle.shape_model.specs.declared.result_row.ResultRow.{ResultRow}
use Rattle.parallel_validate.specs.Whole.{CollectsAtNodes}
use Rattle.threaded_listing.specs.declared.visit.NodeRows.{NodeRows}
use Rattle.threaded_listing.proofs.Gathering.{collects_by_node}
use Rattle.threaded_listing.proofs.nodes.rows_at.Goals as goal

pub returns-clause-rows : goal.returns-clause-rows
returns-clause-rows g c =
    let e = c.args.evaluation.now in
    let found = c.in_ok-found.found.items in
    IfOk-weaker c.without_nodes.result (λ rows. rows.items ≡ flat_map (λ (node : NodeRows). node.rows) found) (λ rows. CollectsAtNodes e.terms e.ids e.shapes c.args.shape c.args.nodes.now rows.items)
    (λ rows h. subst (λ (rs : List ResultRow). CollectsAtNodes e.terms e.ids e.shapes c.args.shape c.args.nodes.now rs) (sym h)
    (collects_by_node e.terms e.ids e.shapes c.args.shape c.args.nodes.now found c.in_ok-found.ensures.rows))
    c.without_nodes.ensures
