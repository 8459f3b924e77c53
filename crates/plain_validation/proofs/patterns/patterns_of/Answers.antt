use Rattle.plain_validation.proofs.Taken.{taken_on}
use Rattle.plain_validation.proofs.patterns.patterns_of.Goals as goal

pub loop-shape-preserved : goal.loop-shape-preserved
loop-shape-preserved c = taken_on c.args.shapes.now c.loop-shape.shape-index c.shape-item.result c.loop-shape.found.items c.push_pattern.new.found.items c.loop-shape-test.true c.shape-item.is c.in_ok-push_pattern.ensures c.loop-shape.invariant
