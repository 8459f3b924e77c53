use Rattle.std.proofs.Common.{[], ◌∷◌}
use Rattle.plain_terms.proofs.FoundItems.{some_all, some_step}
use Rattle.plain_validation.specs.References.{IsEntry}
use Rattle.plain_validation.proofs.Levels.{one_entry}
use Rattle.plain_validation.proofs.evaluation.as_told.Goals as goal

pub loop-row-preserved : goal.loop-row-preserved
loop-row-preserved c =
    some_step (IsEntry c.args.shape.now c.args.node.now) c.args.rows.now c.loop-row.row-index c.row-item.result c.loop-row.told.items (c.in_ok-entry.field-0 ∷ []) c.push.new.self.items c.loop-row-test.true c.row-item.is c.in_ok-push.ensures.items c.loop-row.invariant
    (one_entry c.in_ok-entry.field-0 (record { shape = c.args.shape.now; node = c.args.node.now; row = c.row-item.result }) c.in_ok-entry.ensures)

pub returns : goal.returns
returns c = some_all (IsEntry c.args.shape.now c.args.node.now) c.args.rows.now c.loop-row.row-index c.loop-row.told.items c.loop-row-test.false c.loop-row.invariant
