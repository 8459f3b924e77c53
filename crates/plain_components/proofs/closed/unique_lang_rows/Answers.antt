use Rattle.plain_values.specs.Around.{RowsAt}
use Rattle.plain_components.specs.Rows.{TagsAt}
use Rattle.shape_model.specs.declared.component.Component.TheVariants as components
use Rattle.plain_terms.proofs.FoundItems.{finds_same}
use Rattle.plain_components.proofs.Closings.{not_unique}
use Rattle.plain_components.proofs.closed.unique_lang_rows.Goals as goal

pub returns-then-not-is_true : goal.returns-then-not-is_true
returns-then-not-is_true c = not_unique c.args.at.now c.args.parameter.now c.new.result.items (λ e. let t = c.is_true.ensures.1 e in cc (t, c.if-not-is_true.true)) c.new.ensures.items

pub returns : goal.returns
returns c =
    let is = c.is_true.ensures.0 c.if-not-is_true.false in
    finds_same (TagsAt c.args.at.now c.args.parameter.now) (RowsAt c.args.at.now components.UniqueLang c.args.parameter.now) c.in_ok-rows.rows.items (λ r. (λ w. (is, w), λ w. w.1)) c.in_ok-rows.ensures
