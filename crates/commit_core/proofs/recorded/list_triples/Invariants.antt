use Rattle.std.proofs.Common.{◌≡◌, take}
use Rattle.commit_core.specs.RestoredParts.{all_triples}
use Rattle.commit_core.proofs.recorded.list_triples.Given as goal

abbrev pub invariant-loop-entry : goal.invariant-loop-entry
invariant-loop-entry l = l.table ≡ all_triples (take l.entry-index l.records)
