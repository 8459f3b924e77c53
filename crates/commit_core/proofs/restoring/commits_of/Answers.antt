use Rattle.std.proofs.Common.{◌∙◌, ap, map}
use Rattle.std.proofs.lemmas.List.{take_all}
use Rattle.commit_core.specs.Restored.{accepted_by}
use Rattle.commit_core.proofs.RecordedTriples.{added_stand, both_stand, commits_on, has_record, removed_stand, rest_stand}
use Rattle.commit_core.proofs.RestoredParts.{all_commits, removed_ascends}
use Rattle.commit_core.proofs.restoring.commits_of.Goals as goal

pub split_record-ids-requires : goal.split_record-ids-requires
split_record-ids-requires c = has_record c.args.names.now.terms c.args.records.now c.loop-entry.entry-index c.loop-entry.rest.now c.loop-entry.invariant.left c.entry-item.result c.loop-entry-test.true c.entry-item.is

pub add_commit-requires-clause-removed : goal.add_commit-requires-clause-removed
add_commit-requires-clause-removed c = removed_ascends c.args.records.now c.loop-entry.entry-index c.entry-item.result c.requires.numbered c.loop-entry-test.true c.entry-item.is

pub add_commit-requires-clause-changed : goal.add_commit-requires-clause-changed
add_commit-requires-clause-changed c =
    let ids = c.split_record-ids.result in
    both_stand c.args.names.now.terms ids.removed.now ids.added.now c.in_ok-changed.changed.items c.entry-item.result.removed c.entry-item.result.added c.in_ok-changed.ensures
    (removed_stand c.args.names.now.terms c.args.records.now c.loop-entry.entry-index c.loop-entry.rest.now c.loop-entry.invariant.left c.entry-item.result c.loop-entry-test.true c.entry-item.is c.split_record-ids.result c.split_record-ids.ensures) (added_stand c.args.names.now.terms c.args.records.now c.loop-entry.entry-index c.loop-entry.rest.now c.loop-entry.invariant.left c.entry-item.result c.loop-entry-test.true c.entry-item.is c.split_record-ids.result c.split_record-ids.ensures)

pub loop-entry-preserved : goal.loop-entry-preserved
loop-entry-preserved c = record {
  commits = commits_on c.args.records.now c.loop-entry.entry-index c.entry-item.result c.loop-entry.commits.commits c.add_commit.new.commits.commits c.loop-entry-test.true c.entry-item.is c.loop-entry.invariant.commits c.in_ok-add_commit.ensures.0;
  names = c.in_ok-add_commit.ensures.1;
  left = rest_stand c.args.names.now.terms c.args.records.now c.loop-entry.entry-index c.loop-entry.rest.now c.loop-entry.invariant.left c.entry-item.result c.loop-entry-test.true c.entry-item.is c.split_record-ids.result c.split_record-ids.ensures;
}

pub returns : goal.returns
returns c = (
  c.loop-entry.invariant.commits ∙ ap (map accepted_by) (take_all c.loop-entry.entry-index c.args.records.now c.loop-entry-test.false) ∙ all_commits c.args.records.now,
  c.loop-entry.invariant.names,
)
