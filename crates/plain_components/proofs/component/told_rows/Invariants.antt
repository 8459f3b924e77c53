use Rattle.std.proofs.Common.{take}
use Rattle.plain_terms.specs.Finds.{Finds, WithSome}
use Rattle.plain_components.specs.Rows.{EntryRow}
use Rattle.plain_components.proofs.component.told_rows.Given as goal

abbrev pub invariant-loop-entry : goal.invariant-loop-entry
invariant-loop-entry l = Finds (WithSome (take l.entry-index l.at.told.now) (EntryRow l.at l.properties)) l.rows.items
