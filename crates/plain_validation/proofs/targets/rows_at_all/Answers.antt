use Rattle.shape_model.specs.Validation.{At}
use Rattle.plain_terms.proofs.FoundItems.{some_all, some_step}
use Rattle.plain_validation.proofs.targets.rows_at_all.Goals as goal

pub loop-target-preserved : goal.loop-target-preserved
loop-target-preserved c =
    some_step (At c.args.graph.now c.args.shapes.now c.args.shape.now) c.args.targets.now c.loop-target.target-index c.target-item.result c.loop-target.rows.items c.in_ok-more.more.items c.append.new.self.items c.loop-target-test.true c.target-item.is c.in_ok-append.ensures.items c.loop-target.invariant c.in_ok-more.ensures

pub returns : goal.returns
returns c = some_all (At c.args.graph.now c.args.shapes.now c.args.shape.now) c.args.targets.now c.loop-target.target-index c.loop-target.rows.items c.loop-target-test.false c.loop-target.invariant
