use Rattle.std.proofs.Common.{[], ◌∷◌}
use Rattle.std.specs.List.{Contains}
use Rattle.plain_components.specs.Rows.{EntryRow}
use Rattle.plain_terms.proofs.FoundItems.{no_result, one_result, some_all, some_skip, some_step}
use Rattle.plain_components.proofs.component.told_rows.Goals as goal
use Rattle.plain_components.proofs.component.told_rows.Goals.{then-is_of_property+in_ok-clone+in_ok-push, else-is_of_property}

pub loop-entry-preserved : goal.loop-entry-preserved
loop-entry-preserved c =
    let at = c.args.at.now in
    let e = c.entry-item.result in
    let P = EntryRow at c.args.properties.now in
    let Here = Contains c.args.properties.now e.shape × Contains at.values.now e.node in
    elim c.if-is_of_property.branch [
      | then-is_of_property+in_ok-clone+in_ok-push w ↦ rw w.rows-is (some_step P at.told.now c.loop-entry.entry-index e c.loop-entry.rows.items (w.in_ok-clone.field-0 ∷ []) w.push.new.self.items
          c.loop-entry-test.true c.entry-item.is w.in_ok-push.ensures.items c.loop-entry.invariant (one_result Here w.in_ok-clone.field-0 e.row (c.is_of_property.ensures.0 w.if-is_of_property.true) w.in_ok-clone.ensures.cases))
      | else-is_of_property w ↦ rw w.rows-is (some_skip P at.told.now c.loop-entry.entry-index e c.loop-entry.rows.items
          c.loop-entry-test.true c.entry-item.is (no_result Here e.row (λ h. let k = c.is_of_property.ensures.1 h in cc (k, w.if-is_of_property.false))) c.loop-entry.invariant)
    ]

pub returns : goal.returns
returns c = some_all (EntryRow c.args.at.now c.args.properties.now) c.args.at.now.told.now c.loop-entry.entry-index c.loop-entry.rows.items c.loop-entry-test.false c.loop-entry.invariant
