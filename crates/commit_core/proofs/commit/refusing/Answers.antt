use Rattle.std.proofs.Common.{◌∙◌, List, sym, subst}
use Rattle.shape_model.specs.declared.result_row.ResultRow.{ResultRow}
use Rattle.shape_model.specs.Validation.{Listing}
use Rattle.commit_core.proofs.commit.refusing.Goals as goal

pub returns-clause-listing : goal.returns-clause-listing
returns-clause-listing c =
    let g = c.args.graph.now in
    subst (λ (rows : List ResultRow). Listing g.triples g.shapes rows) (sym (c.rows.view_is ∙ c.from_vec-rows.ensures)) c.in_ok-listing.ensures
