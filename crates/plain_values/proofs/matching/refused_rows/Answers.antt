use Rattle.std.proofs.Common.{[], ◌∷◌}
use Rattle.shape_model.specs.declared.component.Component.TheVariants as components
use Rattle.shape_model.specs.Components.{found_at}
use Rattle.plain_terms.proofs.FoundItems.{no_result, one_result, some_all, some_skip, some_step}
use Rattle.plain_values.specs.Around.{row_at}
use Rattle.plain_values.specs.Built.{IsAccepted, RefusedRow}
use Rattle.plain_values.proofs.matching.refused_rows.Goals as goal
use Rattle.plain_values.proofs.matching.refused_rows.Goals.{then-not-branch+in_ok-row_about+in_ok-push, else-not-branch}

pub loop-value-preserved : goal.loop-value-preserved
loop-value-preserved c =
    let at = c.args.at.now in
    let v = c.value-item.result in
    let P = RefusedRow at c.args.patterns.now c.args.parameter.now c.args.flags.now in
    let made = row_at at components.Pattern c.args.parameter.now (found_at v) in
    let Here = IsAccepted c.args.patterns.now c.args.parameter.now c.args.flags.now v → ⊥ in
    elim c.if-not-branch.branch [
      | then-not-branch+in_ok-row_about+in_ok-push w ↦ rw w.rows-is (some_step P at.values.now c.loop-value.value-index v c.loop-value.rows.items (w.in_ok-row_about.field-0 ∷ []) w.push.new.self.items
          c.loop-value-test.true c.value-item.is w.in_ok-push.ensures.items c.loop-value.invariant (one_result Here w.in_ok-row_about.field-0 made (λ a. let k = c.in_ok-is_accepted.ensures.1 a in cc (k, w.if-not-branch.true)) w.in_ok-row_about.ensures))
      | else-not-branch w ↦ rw w.rows-is (some_skip P at.values.now c.loop-value.value-index v c.loop-value.rows.items
          c.loop-value-test.true c.value-item.is (no_result Here made (λ apart. apart (c.in_ok-is_accepted.ensures.0 w.if-not-branch.false))) c.loop-value.invariant)
    ]

pub returns : goal.returns
returns c = some_all (RefusedRow c.args.at.now c.args.patterns.now c.args.parameter.now c.args.flags.now) c.args.at.now.values.now c.loop-value.value-index c.loop-value.rows.items c.loop-value-test.false c.loop-value.invariant
