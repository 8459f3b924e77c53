use Rattle.std.proofs.Common.{◌∙◌, sym}
use Rattle.commit_core.proofs.RecordedTriples.{added_here, come_on, come_to_end, has_record, is_record, misfits, none_come, removed_here}
use Rattle.commit_core.proofs.restoring.last_graph.Goals as goal

pub loop-entry-init : goal.loop-entry-init
loop-entry-init c = none_come c.args.named.now c.in_ok-graph.graph c.args.records.now c.args.numbers.now c.in_ok-graph.ensures c.requires.empty c.requires.numbers

pub split_record-ids-requires : goal.split_record-ids-requires
split_record-ids-requires c = has_record c.args.named.now.terms c.args.records.now c.loop-entry.entry-index c.loop-entry.rest.now c.loop-entry.invariant.left c.entry-item.result c.loop-entry-test.true c.entry-item.is

pub does_fit-requires-clause-removed : goal.does_fit-requires-clause-removed
does_fit-requires-clause-removed c = (removed_here c.args.named.now c.args.records.now c.loop-entry.entry-index c.loop-entry.graph c.loop-entry.rest.now c.loop-entry.invariant c.entry-item.result c.loop-entry-test.true c.entry-item.is c.split_record-ids.result c.split_record-ids.ensures).0

pub does_fit-requires-clause-added : goal.does_fit-requires-clause-added
does_fit-requires-clause-added c = (added_here c.args.named.now c.args.records.now c.loop-entry.entry-index c.loop-entry.graph c.loop-entry.rest.now c.loop-entry.invariant c.entry-item.result c.loop-entry-test.true c.entry-item.is c.split_record-ids.result c.split_record-ids.ensures).0

pub after_record-requires-clause-removed : goal.after_record-requires-clause-removed
after_record-requires-clause-removed c = (removed_here c.args.named.now c.args.records.now c.loop-entry.entry-index c.loop-entry.graph c.loop-entry.rest.now c.loop-entry.invariant c.entry-item.result c.loop-entry-test.true c.entry-item.is c.split_record-ids.result c.split_record-ids.ensures).0

pub after_record-requires-clause-added : goal.after_record-requires-clause-added
after_record-requires-clause-added c = (added_here c.args.named.now c.args.records.now c.loop-entry.entry-index c.loop-entry.graph c.loop-entry.rest.now c.loop-entry.invariant c.entry-item.result c.loop-entry-test.true c.entry-item.is c.split_record-ids.result c.split_record-ids.ensures).0

pub returns-then-not-does_fit : goal.returns-then-not-does_fit
returns-then-not-does_fit c =
    let here = is_record c.args.named.now c.args.records.now c.loop-entry.entry-index c.loop-entry.graph c.loop-entry.rest.now c.loop-entry.invariant c.entry-item.result c.loop-entry-test.true c.entry-item.is c.split_record-ids.result c.split_record-ids.ensures in
    misfits c.args.named.now c.args.records.now c.loop-entry.entry-index c.loop-entry.graph c.loop-entry.rest.now c.loop-entry.invariant c.entry-item.result c.loop-entry-test.true c.entry-item.is c.split_record-ids.result c.split_record-ids.ensures c.requires.numbered (sym (c.does_fit.ensures c.entry-item.result here) ∙ c.if-not-does_fit.true)

pub loop-entry-preserved : goal.loop-entry-preserved
loop-entry-preserved c =
    let here = is_record c.args.named.now c.args.records.now c.loop-entry.entry-index c.loop-entry.graph c.loop-entry.rest.now c.loop-entry.invariant c.entry-item.result c.loop-entry-test.true c.entry-item.is c.split_record-ids.result c.split_record-ids.ensures in
    come_on c.args.named.now c.args.records.now c.loop-entry.entry-index c.loop-entry.graph c.loop-entry.rest.now c.loop-entry.invariant c.entry-item.result c.loop-entry-test.true c.entry-item.is c.split_record-ids.result c.split_record-ids.ensures _ (sym (c.does_fit.ensures c.entry-item.result here) ∙ c.if-not-does_fit.false) (c.in_ok-graph-2.ensures c.entry-item.result here)

pub returns : goal.returns
returns c = come_to_end c.args.named.now c.args.records.now c.loop-entry.entry-index c.loop-entry.graph c.loop-entry.rest.now c.loop-entry.invariant c.loop-entry-test.false
