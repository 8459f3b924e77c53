use Rattle.std.proofs.Common.{List, refl, subst, sym}
use Rattle.shape_model.specs.declared.result_row.ResultRow.{ResultRow}
use Rattle.shape_eval.specs.Results.{ListsResults}
use Rattle.threaded_listing.proofs.nodes.rows_at_visit.Goals as goal

pub returns : goal.returns
returns g c =
    let e = c.args.evaluation.now in
    (refl, subst (λ (rs : List ResultRow). ListsResults e.terms e.ids e.shapes c.args.shape c.args.visit.node rs) (sym c.from_vec.ensures) c.in_ok-rows.ensures.rows)
