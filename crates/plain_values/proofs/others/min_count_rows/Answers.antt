use Rattle.std.specs.List.{Contains}
use Rattle.shape_model.specs.TermTests.{IsFewer}
use Rattle.shape_model.specs.declared.component.Component.TheVariants as components
use Rattle.plain_values.proofs.Made.{counted, own_listing}
use Rattle.plain_values.proofs.others.min_count_rows.Goals as goal

pub returns : goal.returns
returns c =
    counted c.args.at.now components.MinCount c.args.parameter.now (Contains c.args.at.now.values.now) (λ n. IsFewer n c.args.parameter.now) c.args.at.now.values.now c.is_fewer-is_wrong.result c.in_ok-rows.rows.items
    (own_listing c.args.at.now.values.now c.requires) c.is_fewer-is_wrong.ensures c.in_ok-rows.ensures
