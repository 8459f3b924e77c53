use Rattle.std.proofs.Common.{List, refl, subst, sym}
use Rattle.shape_model.specs.declared.result_row.ResultRow.{ResultRow}
use Rattle.parallel_validate.specs.PairResults.{ListsPair}
use Rattle.threaded_check.specs.PermittedPairs.{pair_in}
use Rattle.threaded_check.proofs.Joining.{one_rows}
use Rattle.threaded_check.proofs.evaluating.checked_pair.Goals as goal

pub returns-clause-rows : goal.returns-clause-rows
returns-clause-rows g c =
    let e = c.args.evaluation.now in
    let p = c.args.pair in
    one_rows e.terms e.ids e.shapes (pair_in p) (record { shape = p.shape; focus = p.focus; rows = c.from_vec.result }) refl
    (subst (λ (rs : List ResultRow). ListsPair e.terms e.ids e.shapes p.shape p.focus rs) (sym c.from_vec.ensures) c.in_ok-rows.ensures.rows)
