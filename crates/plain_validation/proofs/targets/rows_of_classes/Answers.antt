use Rattle.plain_validation.specs.Targets.{ClassRow}
use Rattle.plain_terms.proofs.FoundItems.{some_all, some_step}
use Rattle.plain_validation.proofs.targets.rows_of_classes.Goals as goal

pub loop-class-preserved : goal.loop-class-preserved
loop-class-preserved c =
    some_step (ClassRow c.args.graph.now c.args.shapes.now) c.args.classes.now c.loop-class.class-index c.class-item.result c.loop-class.rows.items c.in_ok-more.more.items c.append.new.self.items c.loop-class-test.true c.class-item.is c.in_ok-append.ensures.items c.loop-class.invariant c.in_ok-more.ensures

pub returns : goal.returns
returns c = some_all (ClassRow c.args.graph.now c.args.shapes.now) c.args.classes.now c.loop-class.class-index c.loop-class.rows.items c.loop-class-test.false c.loop-class.invariant
