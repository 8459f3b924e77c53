use Rattle.std.proofs.Common.{get_or}
use Rattle.std.proofs.lemmas.List.{get_or_default}
use Rattle.shape_model.specs.declared.component.Component.TheVariants as components
use Rattle.plain_components.specs.Rows.{ComponentAt}
use Rattle.plain_terms.proofs.FoundItems.{some_all, some_step}
use Rattle.plain_components.proofs.component.rows_of_components.Goals as goal

pub loop-component-preserved : goal.loop-component-preserved
loop-component-preserved c =
    let i = c.loop-component.component-index in
    let x = get_or c.args.list.now i components.Class in
    some_step (ComponentAt c.args.at.now) c.args.list.now i x c.loop-component.rows.items c.in_ok-more.more.items c.append.new.self.items c.loop-component-test.true
    (get_or_default c.args.list.now i components.Class x c.loop-component-test.true) c.in_ok-append.ensures.items c.loop-component.invariant c.in_ok-more.ensures

pub returns : goal.returns
returns c = some_all (ComponentAt c.args.at.now) c.args.list.now c.loop-component.component-index c.loop-component.rows.items c.loop-component-test.false c.loop-component.invariant
