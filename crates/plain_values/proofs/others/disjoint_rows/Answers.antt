use Rattle.shape_model.specs.Triples.{Has}
use Rattle.shape_model.specs.declared.component.Component.TheVariants as components
use Rattle.plain_values.proofs.Made.{each_inside}
use Rattle.plain_values.proofs.others.disjoint_rows.Goals as goal

pub returns : goal.returns
returns c =
    each_inside c.args.at.now components.Disjoint c.args.parameter.now (Has c.args.at.now.graph.now c.args.at.now.focus.now c.args.parameter.now) c.in_ok-others.others c.in_ok-rows.rows.items c.in_ok-others.ensures c.in_ok-rows.ensures
