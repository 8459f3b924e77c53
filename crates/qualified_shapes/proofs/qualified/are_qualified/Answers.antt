use Rattle.std.proofs.Common.{List, Bool, map}
use Rattle.component_rows.proofs.Told.{tells_more, tells_all}
use Rattle.qualified_shapes.specs.Qualified.{Qualifies}
use Rattle.qualified_shapes.proofs.qualified.are_qualified.Goals as goal

pub loop-at-preserved : goal.loop-at-preserved
loop-at-preserved c =
    let lists : List (List Bool) = map (λ a. a.items) c.args.answers.now in
    tells_more (Qualifies lists) c.loop-at.told.items c.push.new.self.items c.loop-at.at c.qualifies.result c.in_ok-push.ensures.items c.loop-at.invariant c.qualifies.ensures

pub returns : goal.returns
returns c =
    let lists : List (List Bool) = map (λ a. a.items) c.args.answers.now in
    tells_all (Qualifies lists) c.loop-at.told.items c.loop-at.at c.args.places c.loop-at-test.false c.loop-at.auto.at-end c.loop-at.invariant
