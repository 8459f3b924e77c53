use Rattle.std.proofs.Common.{◌≡◌, [], ◌∷◌}
use Rattle.shape_model.specs.declared.result_row.ResultRow.{ResultRow}
use Rattle.shape_model.specs.Components.{found_beside}
use Rattle.rdf_model.specs.declared.term.Term.{Term}
use Rattle.plain_values.specs.Around.{row_at}
use Rattle.plain_terms.proofs.FoundItems.{some_all, some_step}
use Rattle.plain_values.proofs.Made.{is_one}
use Rattle.plain_components.proofs.pairs.rows_beside.Goals as goal

pub loop-other-preserved : goal.loop-other-preserved
loop-other-preserved c =
    let made = λ (w : Term). row_at c.args.at.now c.args.component c.args.parameter.now (found_beside c.args.value.now w) in
    some_step (λ (w : Term) (r : ResultRow). r ≡ made w) c.args.others.now c.loop-other.other-index c.other-item.result c.loop-other.rows.items (c.in_ok-row_beside.field-0 ∷ []) c.push.new.self.items
    c.loop-other-test.true c.other-item.is c.in_ok-push.ensures.items c.loop-other.invariant (is_one c.in_ok-row_beside.field-0 (made c.other-item.result) c.in_ok-row_beside.ensures)

pub returns : goal.returns
returns c =
    some_all (λ (w : Term) (r : ResultRow). r ≡ row_at c.args.at.now c.args.component c.args.parameter.now (found_beside c.args.value.now w)) c.args.others.now c.loop-other.other-index c.loop-other.rows.items
    c.loop-other-test.false c.loop-other.invariant
