use Rattle.std.proofs.Common.{◌∙◌, refl, Some, ap, sym}
use Rattle.log_command.proofs.LastStaged.{none_on, some_on}
use Rattle.log_command.proofs.staged.last_staged.Goals.{in-Some, in-None}
use Rattle.log_command.proofs.staged.last_staged.Goals as goal

pub loop-entry-preserved : goal.loop-entry-preserved
loop-entry-preserved c = elim c.match-entry.branch [
  | in-Some w ↦ some_on c.args.records.now c.loop-entry.entry-index c.entry-item.result c.entry-item.result.number w.as_slice.result c.match-entry.last c.loop-entry-test.true c.entry-item.is w.last-is refl (w.in-Some.is ∙ ap Some (sym w.as_slice.ensures))
  | in-None w ↦ none_on c.args.records.now c.loop-entry.entry-index c.entry-item.result c.loop-entry.last c.match-entry.last c.loop-entry-test.true c.entry-item.is w.last-is w.in-None.is c.loop-entry.invariant
]
