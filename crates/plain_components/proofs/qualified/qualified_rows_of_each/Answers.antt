use Rattle.plain_components.specs.Rows.{QualifiedRow}
use Rattle.plain_components.specs.Siblings.{IsWrong}
use Rattle.plain_terms.proofs.FoundItems.{some_all, some_step}
use Rattle.plain_components.proofs.qualified.qualified_rows_of_each.Goals as goal

pub loop-shape-preserved : goal.loop-shape-preserved
loop-shape-preserved c =
    let P = QualifiedRow c.args.at.now c.args.component c.args.parameter.now (IsWrong c.args.component c.args.parameter.now) in
    some_step P c.args.shapes.now c.loop-shape.shape-index c.shape-item.result c.loop-shape.rows.items c.in_ok-more.more.items c.append.new.self.items c.loop-shape-test.true c.shape-item.is c.in_ok-append.ensures.items c.loop-shape.invariant c.in_ok-more.ensures

pub returns : goal.returns
returns c =
    some_all (QualifiedRow c.args.at.now c.args.component c.args.parameter.now (IsWrong c.args.component c.args.parameter.now)) c.args.shapes.now c.loop-shape.shape-index c.loop-shape.rows.items c.loop-shape-test.false c.loop-shape.invariant
