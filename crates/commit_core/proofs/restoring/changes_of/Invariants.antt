use Rattle.std.proofs.Common.{◌≡◌, ◌++◌, map, take}
use Rattle.triple_index.specs.declared.change.NumberedChange.TheVariants.{Add, Remove}
use Rattle.commit_core.proofs.restoring.changes_of.Given as goal

abbrev pub invariant-loop-ids : goal.invariant-loop-ids
invariant-loop-ids l = l.changes.items ≡ map Remove (take l.ids-index l.removed)

abbrev pub invariant-loop-ids-2 : goal.invariant-loop-ids-2
invariant-loop-ids-2 l = l.changes.items ≡ map Remove l.removed ++ map Add (take l.ids-index l.added)
