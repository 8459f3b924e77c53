use Rattle.std.proofs.Common.{◌∙◌, ap}
use Rattle.commit_core.specs.RestoredParts.{HaveTooMany, triples_in}
use Rattle.commit_core.proofs.Faults.{err_stays}
use Rattle.commit_core.proofs.RecordedTriples.{named_records, too_many}
use Rattle.commit_core.proofs.recorded.name_records.Goals as goal

pub returns-in_err-named-clause-cause : goal.returns-in_err-named-clause-cause
returns-in_err-named-clause-cause c =
    let fault = c.in_err-named.field-0.0 in
    err_stays (HaveTooMany c.args.limit c.args.records.now) c.from_residual-in_err-named.result fault c.from_residual-in_err-named.ensures.1
    (too_many c.args.limit c.args.records.now c.in_ok-graph.graph c.in_ok-list.list c.in_ok-graph.ensures c.in_ok-list.ensures fault c.in_err-named.ensures.cause)

pub returns-clause-named : goal.returns-clause-named
returns-clause-named c =
    let n = c.in_ok-named.named in
    let ids = c.in_ok-ids.ids in
    let numbers = c.in_ok-ids.ensures ∙ ap triples_in c.as_slice.ensures in
    let named = named_records c.args.limit c.args.records.now c.in_ok-graph.graph c.in_ok-list.list c.in_ok-graph.ensures c.in_ok-list.ensures n c.in_ok-named.numbers ids c.in_ok-named.ensures.named numbers in
    rw c.into_parts-graph.ensures named
