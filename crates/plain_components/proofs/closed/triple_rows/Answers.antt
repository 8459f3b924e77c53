use Rattle.std.proofs.Common.{[], ◌∷◌}
use Rattle.shape_model.specs.declared.component.Component.TheVariants as components
use Rattle.plain_values.specs.Around.{row_at}
use Rattle.plain_components.specs.Rows.{ForbiddenRow, IsForbidden, found_triple}
use Rattle.plain_terms.proofs.FoundItems.{no_result, one_result, some_all, some_skip, some_step}
use Rattle.plain_components.proofs.closed.triple_rows.Goals as goal
use Rattle.plain_components.proofs.closed.triple_rows.Goals.{then-is_forbidden+in_ok-triple_row+in_ok-push, else-is_forbidden}

pub loop-triple-preserved : goal.loop-triple-preserved
loop-triple-preserved c =
    let at = c.args.at.now in
    let P = ForbiddenRow at c.args.parameter.now c.args.allowed.now in
    let t = c.triple-item.result in
    let made = row_at at components.Closed c.args.parameter.now (found_triple t) in
    let Here = IsForbidden at c.args.allowed.now t in
    elim c.if-is_forbidden.branch [
      | then-is_forbidden+in_ok-triple_row+in_ok-push w ↦ rw w.rows-is (some_step P at.graph.now c.loop-triple.triple-index t c.loop-triple.rows.items (w.in_ok-triple_row.field-0 ∷ []) w.push.new.self.items
          c.loop-triple-test.true c.triple-item.is w.in_ok-push.ensures.items c.loop-triple.invariant (one_result Here w.in_ok-triple_row.field-0 made (c.is_forbidden.ensures.0 w.if-is_forbidden.true) w.in_ok-triple_row.ensures))
      | else-is_forbidden w ↦ rw w.rows-is (some_skip P at.graph.now c.loop-triple.triple-index t c.loop-triple.rows.items
          c.loop-triple-test.true c.triple-item.is (no_result Here made (λ h. let k = c.is_forbidden.ensures.1 h in cc (k, w.if-is_forbidden.false))) c.loop-triple.invariant)
    ]

pub returns : goal.returns
returns c = some_all (ForbiddenRow c.args.at.now c.args.parameter.now c.args.allowed.now) c.args.at.now.graph.now c.loop-triple.triple-index c.loop-triple.rows.items c.loop-triple-test.false c.loop-triple.invariant
