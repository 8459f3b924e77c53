use Rattle.std.proofs.Common.{List, sym, subst}
use Rattle.shape_model.specs.declared.result_row.ResultRow.{ResultRow}
use Rattle.shape_model.specs.Validation.{Listing}
use Rattle.plain_validation.proofs.rows.listings.Goals as goal

pub returns : goal.returns
returns c = record {
  compiled = subst (λ (rows : List ResultRow). Listing c.args.graph.now c.args.shapes.now rows) (sym c.from_vec.ensures) c.in_ok-compiled.ensures;
  plain = subst (λ (rows : List ResultRow). Listing c.args.graph.now c.args.shapes.now rows) (sym c.from_vec-2.ensures) c.in_ok-plain.ensures;
}
