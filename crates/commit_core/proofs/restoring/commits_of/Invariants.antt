use Rattle.std.proofs.Common.{◌≡◌, drop, map, take}
use Rattle.commit_core.specs.Restored.{accepted_by}
use Rattle.commit_core.specs.RestoredParts.{StandFor, all_triples}
use Rattle.commit_core.proofs.restoring.commits_of.Given as goal

abbrev pub invariant-loop-entry : goal.invariant-loop-entry
invariant-loop-entry l = record {
  commits : l.commits.commits ≡ map accepted_by (take l.entry-index l.records);
  names : l.commits.names ≡ l.names.terms;
  left : StandFor l.names.terms l.rest (all_triples (drop l.entry-index l.records));
}
