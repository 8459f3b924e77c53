use Rattle.std.proofs.Common.{◌≡◌, [], ◌∷◌}
use Rattle.shape_model.specs.declared.result_row.ResultRow.{ResultRow}
use Rattle.shape_model.specs.Components.{found_at}
use Rattle.rdf_model.specs.declared.term.Term.{Term}
use Rattle.plain_values.specs.Around.{row_at}
use Rattle.plain_terms.proofs.FoundItems.{some_all, some_step}
use Rattle.plain_values.proofs.Made.{is_one}
use Rattle.plain_values.proofs.rows.rows_about.Goals as goal

pub loop-node-preserved : goal.loop-node-preserved
loop-node-preserved c =
    let Row = λ (v : Term) (r : ResultRow). r ≡ row_at c.args.at.now c.args.component c.args.parameter.now (found_at v) in
    some_step Row c.args.nodes.now c.loop-node.node-index c.node-item.result c.loop-node.rows.items (c.in_ok-row_about.field-0 ∷ []) c.push.new.self.items c.loop-node-test.true c.node-item.is c.in_ok-push.ensures.items c.loop-node.invariant
    (is_one c.in_ok-row_about.field-0 (row_at c.args.at.now c.args.component c.args.parameter.now (found_at c.node-item.result)) c.in_ok-row_about.ensures)

pub returns : goal.returns
returns c =
    some_all (λ (v : Term) (r : ResultRow). r ≡ row_at c.args.at.now c.args.component c.args.parameter.now (found_at v)) c.args.nodes.now c.loop-node.node-index c.loop-node.rows.items c.loop-node-test.false c.loop-node.invariant
