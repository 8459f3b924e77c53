use Rattle.std.proofs.Common.{◌∙◌, sym}
use Rattle.report_writer.proofs.FirstShapes.{is_put, stays}
use Rattle.report_writer.proofs.tables.add_shape.Goals as goal

pub returns-in_ok-insert : goal.returns-in_ok-insert
returns-in_ok-insert c = is_put c.args.table.now c.insert.new.self c.args.shape (sym c.contains_key.ensures ∙ c.if-not-contains_key.true) c.in_ok-insert.ensures.updates.0

pub returns-else-not-contains_key : goal.returns-else-not-contains_key
returns-else-not-contains_key c = stays c.args.table.now c.args.shape.now (sym c.contains_key.ensures ∙ c.if-not-contains_key.false)
