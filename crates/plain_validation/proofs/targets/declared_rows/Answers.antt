use Rattle.plain_validation.specs.Targets.{DeclaredRow}
use Rattle.plain_terms.proofs.FoundItems.{some_all, some_step}
use Rattle.plain_validation.proofs.targets.declared_rows.Goals as goal

pub loop-triple-preserved : goal.loop-triple-preserved
loop-triple-preserved c =
    some_step (DeclaredRow c.args.graph.now c.args.shapes.now) c.args.shapes.now c.loop-triple.triple-index c.triple-item.result c.loop-triple.rows.items c.in_ok-more.more.items c.append.new.self.items c.loop-triple-test.true c.triple-item.is c.in_ok-append.ensures.items c.loop-triple.invariant c.in_ok-more.ensures

pub returns : goal.returns
returns c = some_all (DeclaredRow c.args.graph.now c.args.shapes.now) c.args.shapes.now c.loop-triple.triple-index c.loop-triple.rows.items c.loop-triple-test.false c.loop-triple.invariant
