use Rattle.std.proofs.Common.{◌∙◌, List, [], ◌∷◌, ◌++◌, ap}
use Rattle.shape_model.specs.declared.component.Component.TheVariants as components
use Rattle.shape_model.specs.declared.result_row.ResultRow.{ResultRow}
use Rattle.plain_values.specs.Around.{row_at}
use Rattle.plain_components.specs.Rows.{SharedRow, found_tag}
use Rattle.plain_components.specs.Pairs.{SharesSome}
use Rattle.plain_terms.proofs.FoundItems.{finds_at, finds_none, one_result}
use Rattle.plain_components.proofs.pairs.shared_rows.Goals as goal
use Rattle.plain_components.proofs.pairs.shared_rows.Goals.{then-shares_some+in_ok-tag_row+in_ok-push, else-shares_some}

pub returns : goal.returns
returns c =
    let at = c.args.at.now in
    let made = row_at at components.UniqueLang c.args.parameter.now (found_tag c.args.tag.now) in
    let Shared = SharesSome at.values.now c.args.tag.now c.args.value.now in
    let P = SharedRow at c.args.parameter.now c.args.tag.now c.args.value.now in
    elim c.if-shares_some.branch [
      | then-shares_some+in_ok-tag_row+in_ok-push w ↦ rw w.rows-is (finds_at P (w.in_ok-tag_row.field-0 ∷ []) w.push.new.self.items
          (w.in_ok-push.ensures.items ∙ ap (λ (xs : List ResultRow). xs ++ w.in_ok-tag_row.field-0 ∷ []) c.new-rows.ensures.items)
          (one_result Shared w.in_ok-tag_row.field-0 made (c.shares_some.ensures.0 w.if-shares_some.true) w.in_ok-tag_row.ensures))
      | else-shares_some w ↦ rw w.rows-is (finds_at P [] c.new-rows.result.items c.new-rows.ensures.items (finds_none P (λ r h. let t = c.shares_some.ensures.1 h.0 in cc (t, w.if-shares_some.false))))
    ]
