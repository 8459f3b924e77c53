use Rattle.std.proofs.Common.{arith}
use Rattle.shape_syntax.proofs.Scans.{read_in}
use Rattle.plain_values.specs.Around.{RowsAt}
use Rattle.plain_terms.proofs.FoundItems.{some_all, some_step}
use Rattle.plain_components.proofs.component.rows_at_each.Goals as goal

pub rows_at-requires-clause-parameter : goal.rows_at-requires-clause-parameter
rows_at-requires-clause-parameter c = c.requires.parameters c.parameter-item.result (read_in c.args.parameters.now c.loop-parameter.parameter-index c.parameter-item.result (omega arith) c.parameter-item.is)

pub loop-parameter-preserved : goal.loop-parameter-preserved
loop-parameter-preserved c =
    some_step (RowsAt c.args.at.now c.args.component) c.args.parameters.now c.loop-parameter.parameter-index c.parameter-item.result c.loop-parameter.rows.items c.in_ok-more.more.items c.append.new.self.items
    c.loop-parameter-test.true c.parameter-item.is c.in_ok-append.ensures.items c.loop-parameter.invariant c.in_ok-more.ensures

pub returns : goal.returns
returns c = some_all (RowsAt c.args.at.now c.args.component) c.args.parameters.now c.loop-parameter.parameter-index c.loop-parameter.rows.items c.loop-parameter-test.false c.loop-parameter.invariant
