use Rattle.std.proofs.Common.{List, subst, sym}
use Rattle.shape_model.specs.declared.result_row.ResultRow.{ResultRow}
use Rattle.parallel_validate.specs.PairResults.{ListsPair}
use Rattle.parallel_validate.proofs.pairs.checked_rows.Goals as goal

pub returns-clause-rows : goal.returns-clause-rows
returns-clause-rows g c =
    subst (λ (rs : List ResultRow). ListsPair c.args.evaluation.now.terms c.args.evaluation.now.ids c.args.evaluation.now.shapes c.args.pair.0 c.args.pair.1 rs) (sym c.from_vec.ensures) c.in_ok-rows.ensures.rows
