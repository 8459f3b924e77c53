use Rattle.std.specs.List.{Contains}
use Rattle.shape_model.specs.TermTests.{IsMore}
use Rattle.shape_model.specs.declared.component.Component.TheVariants as components
use Rattle.plain_values.proofs.Made.{counted, own_listing}
use Rattle.plain_values.proofs.others.max_count_rows.Goals as goal

pub returns : goal.returns
returns c =
    counted c.args.at.now components.MaxCount c.args.parameter.now (Contains c.args.at.now.values.now) (λ n. IsMore n c.args.parameter.now) c.args.at.now.values.now c.is_more-is_wrong.result c.in_ok-rows.rows.items
    (own_listing c.args.at.now.values.now c.requires) c.is_more-is_wrong.ensures c.in_ok-rows.ensures
