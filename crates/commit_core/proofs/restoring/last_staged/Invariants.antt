use Rattle.std.proofs.Common.{◌≡◌, [], drop}
use Rattle.commit_core.specs.RestoredParts.{shapes_after, staged_in}
use Rattle.commit_core.proofs.restoring.last_staged.Given as goal

abbrev pub invariant-loop-entry : goal.invariant-loop-entry
invariant-loop-entry l = shapes_after (staged_in l.last) (drop l.entry-index l.records) ≡ shapes_after [] l.records
