use Rattle.std.proofs.Common.{◌≡◌, ◌∙◌, List, [], ◌∷◌, ◌++◌, ap, IsTrue}
use Rattle.shape_model.specs.declared.result_row.ResultRow.{ResultRow}
use Rattle.shape_model.specs.Components.{found_alone}
use Rattle.plain_values.specs.Around.{row_at}
use Rattle.plain_terms.proofs.FoundItems.{finds_at, finds_none, one_result}
use Rattle.plain_values.proofs.others.row_if.Goals as goal
use Rattle.plain_values.proofs.others.row_if.Goals.{then-is_wrong+in_ok-row_alone+in_ok-push, else-is_wrong}

pub returns : goal.returns
returns c =
    let made = row_at c.args.at.now c.args.component c.args.parameter.now found_alone in
    let P = λ (r : ResultRow). IsTrue c.args.is_wrong × (r ≡ made) in
    elim c.if-is_wrong.branch [
      | then-is_wrong+in_ok-row_alone+in_ok-push w ↦ rw w.rows-is (finds_at P (w.in_ok-row_alone.field-0 ∷ []) w.push.new.self.items
          (w.in_ok-push.ensures.items ∙ ap (λ (xs : List ResultRow). xs ++ w.in_ok-row_alone.field-0 ∷ []) c.new-rows.ensures.items)
          (one_result (IsTrue c.args.is_wrong) w.in_ok-row_alone.field-0 made w.if-is_wrong.true w.in_ok-row_alone.ensures))
      | else-is_wrong w ↦ rw w.rows-is (finds_at P [] c.new-rows.result.items c.new-rows.ensures.items (finds_none P (λ r h. let t = h.0 in cc (t, w.if-is_wrong.false))))
    ]
