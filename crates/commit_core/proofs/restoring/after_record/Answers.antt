use Rattle.std.proofs.Common.{◌≡◌, map}
use Rattle.std.proofs.lemmas.Result.{IfOk-weaker}
use Rattle.record_text.specs.declared.record.Record.{Record}
use Rattle.triple_index.specs.Changes.{change_at}
use Rattle.data_graph.specs.DataGraphs.{NamedGraph, with_changes}
use Rattle.commit_core.specs.RestoredParts.{IsAfterRecord, IsRecordOf}
use Rattle.commit_core.proofs.RecordedTriples.{after_changes, changes_numbered}
use Rattle.commit_core.proofs.restoring.after_record.Goals as goal

pub after_numbers-requires : goal.after_numbers-requires
after_numbers-requires c =
    changes_numbered c.args.graph.now.terms c.args.removed.now c.args.added.now c.deref.result.now (rw c.deref.ensures.value c.in_ok-changes.ensures) c.requires.removed c.requires.added

pub returns : goal.returns
returns c =
    let g = c.args.graph.now in
    let removed = c.args.removed.now in
    let added = c.args.added.now in
    let changes = c.deref.result.now in
    IfOk-weaker c.after_numbers.result (λ (next : NamedGraph). next ≡ with_changes g (map (change_at g.terms) changes)) (λ (next : NamedGraph). (entry : Record) → IsRecordOf g.terms removed added entry → IsAfterRecord g entry next)
    (λ next e. after_changes g next removed added changes (rw c.deref.ensures.value c.in_ok-changes.ensures) e) c.after_numbers.ensures
