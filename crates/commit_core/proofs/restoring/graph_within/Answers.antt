use Rattle.std.proofs.Common.{refl}
use Rattle.commit_core.specs.Restored.{IsRestoreFault}
use Rattle.commit_core.specs.RestoredParts.{IsGraphWithin}
use Rattle.commit_core.proofs.Faults.{fault_stays}
use Rattle.commit_core.proofs.RecordedTriples.{all_stand, graph_within, misfit_fault, no_triples, shapes_ready, too_large}
use Rattle.commit_core.proofs.restoring.graph_within.Goals as goal

pub last_graph-requires-clause-empty : goal.last_graph-requires-clause-empty
last_graph-requires-clause-empty c = no_triples c.args.limits.terms c.args.records.now c.args.named.now c.requires.named c.graph.result.now c.graph.ensures

pub last_graph-requires-clause-numbers : goal.last_graph-requires-clause-numbers
last_graph-requires-clause-numbers c = all_stand c.args.limits.terms c.args.records.now c.args.named.now c.requires.named c.graph.result.now c.graph.ensures c.as_slice.result.now c.as_slice.ensures

pub returns-in_err-graph : goal.returns-in_err-graph
returns-in_err-graph c =
    let rs = c.args.records.now in
    let fault = c.in_err-graph.field-0.0 in
    fault_stays (IsGraphWithin c.args.limits rs) (IsRestoreFault c.args.limits rs) c.from_residual.result fault c.from_residual.ensures.1 (misfit_fault c.args.limits rs fault c.in_err-graph.ensures)

pub returns-then-len-limits : goal.returns-then-len-limits
returns-then-len-limits c = too_large c.args.limits.terms c.args.records.now c.args.named.now c.requires.named c.graph.result.now c.graph.ensures c.in_ok-graph.graph c.in_ok-graph.ensures c.args.limits (rw c.len.ensures at c.if-len-limits.true)

pub replace_shapes-requires : goal.replace_shapes-requires
replace_shapes-requires c = shapes_ready c.args.limits.terms c.args.records.now c.args.named.now c.requires.named c.graph.result.now c.graph.ensures c.in_ok-graph.graph c.in_ok-graph.ensures c.args.shapes c.requires.shapes

pub returns : goal.returns
returns c = graph_within c.args.limits.terms c.args.records.now c.args.named.now c.requires.named c.graph.result.now c.graph.ensures c.in_ok-graph.graph c.in_ok-graph.ensures c.args.limits c.replace_shapes.new.self c.args.shapes refl c.requires.shapes c.in_ok-replace_shapes.ensures.ok (rw c.len.ensures at c.if-len-limits.false)
